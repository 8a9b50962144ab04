-- Document 01, "Listing": fields are parted by one space and each line ends with a line feed; numbers are decimal. Text is its bytes in ASCII.
use Rattle.std.specs.Prelude.{ℕ, ◌+◌, ◌/◌, ◌%◌, cond, List, [], ◌∷◌, ◌++◌, ltb, drop}

-- ---- numbers of at most five digits, as a capture needs: it has at most 52,428 characters. proofs/Decimals.antt says that they are decimal

abbrev pub digit : ℕ → ℕ
digit n = 48 + n % 10

abbrev pub five_digits : ℕ → List ℕ
five_digits n = digit (n / 10000) ∷ digit (n / 1000) ∷ digit (n / 100) ∷ digit (n / 10) ∷ digit n ∷ []

abbrev pub leading_zeros : ℕ → ℕ
leading_zeros n = cond (ltb n 10) 4 (cond (ltb n 100) 3 (cond (ltb n 1000) 2 (cond (ltb n 10000) 1 0)))

unfoldable pub decimal : ℕ → List ℕ
decimal n = drop (leading_zeros n) (five_digits n)

-- ---- a line of fields

abbrev pub space : ℕ
space = 32

abbrev pub line_feed : ℕ
line_feed = 10

abbrev pub rest_of_line : List (List ℕ) → List ℕ
rest_of_line [] = line_feed ∷ []
rest_of_line (field ∷ fields) = space ∷ (field ++ rest_of_line fields)

abbrev pub line : List ℕ → List (List ℕ) → List ℕ
line first fields = first ++ rest_of_line fields

-- ---- the words

-- place, event, detail: the header's
abbrev pub place_word : List ℕ
place_word = 112 ∷ 108 ∷ 97 ∷ 99 ∷ 101 ∷ []

abbrev pub event_word : List ℕ
event_word = 101 ∷ 118 ∷ 101 ∷ 110 ∷ 116 ∷ []

abbrev pub detail_word : List ℕ
detail_word = 100 ∷ 101 ∷ 116 ∷ 97 ∷ 105 ∷ 108 ∷ []

abbrev pub violation_word : List ℕ
violation_word = 118 ∷ 105 ∷ 111 ∷ 108 ∷ 97 ∷ 116 ∷ 105 ∷ 111 ∷ 110 ∷ []

abbrev pub start_word : List ℕ
start_word = 115 ∷ 116 ∷ 97 ∷ 114 ∷ 116 ∷ []

-- end: of a packet, and of the listing
abbrev pub end_word : List ℕ
end_word = 101 ∷ 110 ∷ 100 ∷ []

abbrev pub lmp_word : List ℕ
lmp_word = 108 ∷ 109 ∷ 112 ∷ []

abbrev pub data_word : List ℕ
data_word = 100 ∷ 97 ∷ 116 ∷ 97 ∷ []

abbrev pub priority_word : List ℕ
priority_word = 112 ∷ 114 ∷ 105 ∷ 111 ∷ 114 ∷ 105 ∷ 116 ∷ 121 ∷ []

abbrev pub good_word : List ℕ
good_word = 103 ∷ 111 ∷ 111 ∷ 100 ∷ []

abbrev pub bad_word : List ℕ
bad_word = 98 ∷ 97 ∷ 100 ∷ []

-- ACK, NACK
abbrev pub ack_word : List ℕ
ack_word = 65 ∷ 67 ∷ 75 ∷ []

abbrev pub nack_word : List ℕ
nack_word = 78 ∷ 65 ∷ 67 ∷ 75 ∷ []

abbrev pub refused_word : List ℕ
refused_word = 114 ∷ 101 ∷ 102 ∷ 117 ∷ 115 ∷ 101 ∷ 100 ∷ []
