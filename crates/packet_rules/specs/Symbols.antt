-- What the reader tells apart among the symbols, by document 01's list.
use Rattle.std.specs.Prelude.{ℕ, Bool, true, false, cond, eqb}
use Rattle.symbol.specs.declared.Symbol.{Symbol}
use Rattle.packet_rules.specs.declared.Opener.TheVariants.{Sdp, Spp, Slp}
use Rattle.packet_rules.specs.declared.Kind.{Kind}
use Rattle.packet_rules.specs.declared.Kind.TheVariants.{Data, Idl, Com, Opens, Closes, NoPlace, Unsupported}

-- of the twelve: COM, IDL, SPP, SDP, SLP, EGP, EBP, K28.7; the other four are ALN, SUP, CDP and CPP
unfoldable pub control_kind : ℕ → Kind
control_kind b =
    cond (eqb b 0xBC) Com
    (cond (eqb b 0x1C) Idl
    (cond (eqb b 0x3C) (Opens Spp)
    (cond (eqb b 0x5C) (Opens Sdp)
    (cond (eqb b 0xF7) (Opens Slp)
    (cond (eqb b 0xFD) (Closes false)
    (cond (eqb b 0xFE) (Closes true)
    (cond (eqb b 0xFC) Unsupported NoPlace)))))))

unfoldable pub kind_of : Symbol → Kind
kind_of s = cond s.control (control_kind s.byte) (Data s.byte)

-- ---- tests of a kind

abbrev pub is_idl : Kind → Bool
is_idl (Data b) = false
is_idl Idl = true
is_idl Com = false
is_idl (Opens o) = false
is_idl (Closes bad) = false
is_idl NoPlace = false
is_idl Unsupported = false

abbrev pub is_unsupported : Kind → Bool
is_unsupported (Data b) = false
is_unsupported Idl = false
is_unsupported Com = false
is_unsupported (Opens o) = false
is_unsupported (Closes bad) = false
is_unsupported NoPlace = false
is_unsupported Unsupported = true

abbrev pub is_end : Kind → Bool
is_end (Data b) = false
is_end Idl = false
is_end Com = false
is_end (Opens o) = false
is_end (Closes bad) = true
is_end NoPlace = false
is_end Unsupported = false

-- data for whose byte something holds
abbrev pub is_data : Kind → (ℕ → Bool) → Bool
is_data (Data b) holds = holds b
is_data Idl holds = false
is_data Com holds = false
is_data (Opens o) holds = false
is_data (Closes bad) holds = false
is_data NoPlace holds = false
is_data Unsupported holds = false
