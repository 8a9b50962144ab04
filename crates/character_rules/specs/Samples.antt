-- Worked examples beyond the bench's: refusals, readings of each kind, and a run.
use Rattle.std.specs.Prelude.{◌≡◌, [], ◌∷◌, ◌+◌, pos, negsuc}
use Rattle.character_rules.specs.Answers.{not_written, clean, wrong_disparity, invalid, not_read, run_read, run_written, not_run_written}
use Rattle.character_rules.specs.Writing.{writing, run_writing, run_stored}
use Rattle.character_rules.specs.Reading.{reading}
use Rattle.character_rules.specs.Results.{run_reading, run_output}
use Rattle.character_rules.specs.Bench.{D, K}

pub record Samples : Type 0 where
  -- K28.7 is not writable; at a number that is no disparity refusal 1 comes first
  pub not_writable : writing (K 28 7) (negsuc 0) ≡ not_written 3
  pub no_disparity : writing (K 28 7) (pos 0) ≡ not_written 1
  -- 1,024 is no character, 2 no disparity
  pub no_character : reading 1024 (pos 1) ≡ not_read 1
  pub not_at_two : reading 0 (pos 2) ≡ not_read 1
  -- K28.7 reads clean where clause 36 has it, with wrong disparity at the other; 0 is no code group
  pub k28_7 : reading 0b0011111000 (negsuc 0) ≡ clean (K 28 7) (negsuc 0)
  pub k28_7_at_plus : reading 0b0011111000 (pos 1) ≡ wrong_disparity (K 28 7) (negsuc 0)
  pub nothing : reading 0 (pos 1) ≡ invalid (pos 1)
  -- the two characters of document 01's listing: K28.0, which is IDL, and D21.5
  pub idle : reading 0b0011110100 (negsuc 0) ≡ clean (K 28 0) (negsuc 0)
  pub d21_5 : reading 0b1010101010 (negsuc 0) ≡ clean (D 21 5) (negsuc 0)
  -- K28.5 closes at +1, where its other column is legal: twice clean from −1, into an output that is longer by one
  pub run_closing_is : run_reading (0b0011111010 ∷ 0b1100000101 ∷ []) (negsuc 0) 3 ≡ run_read (negsuc 0)
  pub run_output_is :
      run_output (0b0011111010 ∷ 0b1100000101 ∷ []) (negsuc 0) (7 ∷ 8 ∷ 9 ∷ [])
      ≡ (0xBC + 256 + 2048) ∷ (0xBC + 256) ∷ 9 ∷ []
  -- D0.0 closes where it began, D3.0 turns the disparity over: from −1 into an output that is longer by one; and into one that is too short
  pub bytes_closing : run_writing (0x00 ∷ 0x03 ∷ []) (negsuc 0) 3 ≡ run_written (pos 1)
  pub bytes_output :
      run_stored (0x00 ∷ 0x03 ∷ []) (negsuc 0) (7 ∷ 8 ∷ 9 ∷ []) ≡ 0b1001110100 ∷ 0b1100011011 ∷ 9 ∷ []
  pub bytes_short : run_writing (0x00 ∷ 0x03 ∷ []) (negsuc 0) 1 ≡ not_run_written 6
