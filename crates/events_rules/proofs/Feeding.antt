-- A run of user bytes: while a packet takes bytes, each clean data symbol is one event, one step of the CRC register and nothing else.
-- Assumes nothing.
use mathlib.Core.Path.{◌≡◌, refl, sym, ◌∙◌, ap, ap₂, subst}
use mathlib.Core.Bool.{Bool, true}
use mathlib.Core.List.{List}
use Prim.Native.Nat.{ℕ, ◌+◌, ◌-◌, ◌%◌, ◌≤◌, ◌<◌}
use native.Mathlib.Omega.{arith}
use borrow.Author.Tests.{lt-leb}
use lib.Dec.{leb}
use lib.IntN.{ℤ}
use lib.ListN.{length, get_or, set, length-set}
use Rattle.symbol.specs.Symbols.{data_symbol}
use Rattle.character_rules.specs.Disparity.{disparity_of}
use Rattle.character_rules.specs.Answers.{clean}
use Rattle.character_rules.specs.Reading.{reading}
use Rattle.character_rules.specs.Results.{packed, packed_disparity, unpacked}
use Rattle.character_rules.proofs.Packed.{unpacked_data, unpacked_reading}
use Rattle.character_rules.proofs.RunLaws.{disparity_is}
use Rattle.crc.specs.Crc16.{crc_byte}
use Rattle.packet_rules.specs.Open.{OpenData, OpenPriority, open_data, open_priority}
use Rattle.std.specs.Prelude.{Some, None}
use Rattle.packet_rules.specs.declared.Phase.{Phase}
use Rattle.packet_rules.specs.declared.Phase.TheVariants.{Free}
use Rattle.packet_rules.specs.declared.Reader.{Reader}
use Rattle.packet_rules.specs.Answers.{Answer, gave_byte}
use Rattle.packet_rules.specs.State.{register_in, well_formed}
use Rattle.packet_rules.specs.Step.{step_of}
use Rattle.packet_rules.proofs.Runs.{gives}
use Rattle.packet_rules.proofs.Steps.{st, on_byte}
use Rattle.events_rules.specs.Numbers.{packed_event}
use Rattle.events_rules.proofs.Runs.{Ran, ran_none, ran_then, ran_one}

-- ---- states that take bytes, by how many came and by the register

-- from such a state, up to m bytes, each is given as it comes
abbrev pub Feeds : (ℕ → ℕ → Reader) → ℕ → Type 0
Feeds f m =
    (k c b : ℕ) (e : ℤ) → k < m → well_formed (f k c) ≡ true
    → step_of (f k c) (clean (data_symbol b) e) ≡ gives (gave_byte b) (f (k + 1) (crc_byte c b))

-- a data packet that has begun
abbrev pub in_data : ℕ → ℕ → ℕ → ℕ → Reader
in_data s h k c = st s (open_data h true c) None Free

pub data_feeds : (s h m : ℕ) → Feeds (in_data s h) m
data_feeds s h m k c b e l ok = on_byte s (open_data h true c) None e b refl refl ok

-- a priority packet with room for m bytes
abbrev pub in_priority : ℕ → OpenData → ℕ → ℕ → ℕ → ℕ → Reader
in_priority s d o n k c = st s d (open_priority o (n + k) c) Free

pub priority_feeds : (s : ℕ) (d : OpenData) (o n m : ℕ) → n + m ≤ s → Feeds (in_priority s d o n) m
priority_feeds s d o n m room k c b e l ok =
    let one : (n + k) + 1 ≡ n + (k + 1) = omega arith in
    on_byte s d (open_priority o (n + k) c) e b refl (lt-leb s (n + k) (omega arith)) ok
    ∙ ap (λ (j : ℕ). gives (gave_byte b) (st s d (open_priority o j (crc_byte c b)) Free)) one

-- ---- a run of bytes, from place i to place j, none past `until`: whatever the packet that takes them

pub record Fed (cs : List ℕ) (until i : ℕ) (p : Bool) (c : ℕ) (old : List ℕ) (j : ℕ) (q : Bool) (x : ℕ) (new : List ℕ) : Type 0 where
  pub forward : i ≤ j
  pub within : j ≤ until
  pub room : length new ≡ length old
  pub runs : (f : ℕ → ℕ → Reader) → Feeds f (until - i) → well_formed (f 0 c) ≡ true → Ran cs i p (f 0 c) old j q (f (j - i) x) new

module _ (cs : List ℕ) (until i : ℕ) (p : Bool) (c : ℕ) (old : List ℕ) (most : until ≤ length cs) where
  pub fed_none : i ≤ until → Fed cs until i p c old i p c old
  fed_none h =
      let none : 0 ≡ i - i = omega arith in
      record {
        forward = omega arith;
        within = h;
        room = refl;
        runs = λ f feeds ok. subst (λ (k : ℕ). Ran cs i p (f 0 c) old i p (f k c) old) none (ran_none cs i p (f 0 c) old (omega arith) ok);
      }

  module _ (j : ℕ) (q : Bool) (x : ℕ) (out : List ℕ) (n : ℕ) (fed : Fed cs until i p c old j q x out) (h : j < until) (g : get_or cs j 0 < 1024)
      (fits : length cs ≤ length out) (is : n ≡ packed (reading (get_or cs j 0) (disparity_of q))) (data_result : n % 2048 < 256) where
    result : reading (get_or cs j 0) (disparity_of q) ≡ clean (data_symbol (n % 256)) (packed_disparity n)
    result = sym (unpacked_reading (get_or cs j 0) (disparity_of q) (omega arith) (disparity_is q)) ∙ ap unpacked (sym is) ∙ unpacked_data n data_result

    -- one byte more
    pub fed_one : Fed cs until i p c old (j + 1) (leb 2048 n) (crc_byte x (n % 256)) (set out j (262144 + n % 256))
    unfolding packed_event
    fed_one =
        let a = fed.forward in
        let one : (j - i) + 1 ≡ (j + 1) - i = omega arith in
        record {
          forward = omega arith;
          within = omega arith;
          room = length-set out j (262144 + n % 256) ∙ fed.room;
          runs = λ f feeds ok.
              let ran = fed.runs f feeds ok in
              let said : step_of (f (j - i) x) (reading (get_or cs j 0) (disparity_of q)) ≡ gives (gave_byte (n % 256)) (f ((j - i) + 1) (crc_byte x (n % 256))) =
              ap (step_of (f (j - i) x)) result ∙ feeds (j - i) x (n % 256) (packed_disparity n) (omega arith) ran.rule in
              ran_then cs ran
              (ran_one cs j q (f (j - i) x) out n (262144 + n % 256) (f ((j + 1) - i) (crc_byte x (n % 256))) (omega arith) g fits ran.rule is
              (sym (ap (λ (y : Answer). packed_event y.said) said))
              (ap (λ (k : ℕ). f k (crc_byte x (n % 256))) (sym one) ∙ sym (ap (λ (y : Answer). y.reader) said)));
        }

-- ---- the run in the packet that takes it

-- the packets after k bytes, with that register: the priority packet's where one is open, and else the data packet's
abbrev pub data_to : OpenData → OpenPriority → ℕ → OpenData
data_to d (Some inner) c = d
data_to (Some outer) None c = open_data outer.channel outer.begun c
data_to None None c = None

abbrev pub priority_to : OpenPriority → ℕ → ℕ → OpenPriority
priority_to (Some inner) k c = open_priority inner.opening (inner.count + k) c
priority_to None k c = None

abbrev pub count_in : OpenPriority → ℕ
count_in (Some inner) = inner.count
count_in None = 0

abbrev pub fed_to : ℕ → OpenData → OpenPriority → Phase → ℕ → ℕ → Reader
fed_to s d p w k c = st s (data_to d p c) (priority_to p k c) w

-- n bytes, at most so many, are taken in such a state, and counted
pub record Takes (s : ℕ) (d : OpenData) (p : OpenPriority) (w : Phase) (most n : ℕ) : Type 0 where
  pub within : n ≤ most
  pub counted : 0 < n → count_in p + n ≤ 65535
  pub feeds : Feeds (fed_to s d p w) n

module _ (s : ℕ) (d : OpenData) (p : OpenPriority) (w : Phase) (most : ℕ) where
  pub takes_none : Takes s d p w most 0
  takes_none = record { within = omega arith; counted = λ l. absurd (omega (arith, l)); feeds = λ k c b e l ok. absurd (omega (arith, l)) }

  pub takes_data : (h : ℕ) (begun : Bool) (x : ℕ) → d ≡ open_data h begun x → begun ≡ true → p ≡ None → w ≡ Free → most ≤ 65535 → Takes s d p w most most
  takes_data h begun x e t f g m =
      subst (λ (y : OpenData). Takes s y p w most most) (sym (e ∙ ap (λ (y : Bool). open_data h y x) t))
      (subst (λ (y : OpenPriority). Takes s (open_data h true x) y w most most) (sym f)
      (subst (λ (y : Phase). Takes s (open_data h true x) None y most most) (sym g)
      record { within = omega arith; counted = λ l. omega arith; feeds = data_feeds s h most }))

  pub takes_priority : (o k x n : ℕ) → p ≡ open_priority o k x → w ≡ Free → n ≤ most → k + n ≤ s → s ≤ 65535 → Takes s d p w most n
  takes_priority o k x n f g l room m =
      subst (λ (y : OpenPriority). Takes s d y w most n) (sym f)
      (subst (λ (y : Phase). Takes s d (open_priority o k x) y most n) (sym g)
      record { within = l; counted = λ z. omega arith; feeds = priority_feeds s d o k n room })

-- before the first byte stands the state itself
pub fed_start : (s : ℕ) (d : OpenData) (p : OpenPriority) (w : Phase) → fed_to s d p w 0 (register_in d p) ≡ st s d p w
fed_start s d (Some inner) w =
    let none : inner.count + 0 ≡ inner.count = omega arith in
    ap (λ (k : ℕ). st s d (open_priority inner.opening k inner.register) w) none
fed_start s (Some outer) None w = refl
fed_start s None None w = refl

module _ (cs : List ℕ) (i m : ℕ) (p : Bool) (old : List ℕ) (j : ℕ) (q : Bool) (x : ℕ) (new : List ℕ) (s : ℕ) (d : OpenData) (t : OpenPriority) (w : Phase)
    (c : ℕ) (register : c ≡ register_in d t) (fed : Fed cs (i + m) i p c old j q x new) where
  pub fed_ran : Feeds (fed_to s d t w) m → well_formed (st s d t w) ≡ true
      → (e : OpenData) (u : OpenPriority) → e ≡ data_to d t x → u ≡ priority_to t (j - i) x → Ran cs i p (st s d t w) old j q (st s e u w) new
  fed_ran feeds ok e u de ue =
      let all : m ≡ (i + m) - i = omega arith in
      let start : fed_to s d t w 0 c ≡ st s d t w = ap (fed_to s d t w 0) register ∙ fed_start s d t w in
      let after : fed_to s d t w (j - i) x ≡ st s e u w = ap₂ (λ (a : OpenData) (b : OpenPriority). st s a b w) (sym de) (sym ue) in
      subst (λ (r : Reader). Ran cs i p (st s d t w) old j q r new) after
      (subst (λ (r : Reader). Ran cs i p r old j q (fed_to s d t w (j - i) x) new) start
      (fed.runs (fed_to s d t w) (subst (λ (k : ℕ). Feeds (fed_to s d t w) k) all feeds) (ap well_formed start ∙ ok)))
