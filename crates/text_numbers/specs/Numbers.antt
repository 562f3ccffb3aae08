-- A number's text, as it is read and as it is printed. Paper: 01, "Lines", "A number has 1 to 5 digits, no leading
-- zero but in 0 itself, and is at most 65535".
--
--   digit_of b    the value of the byte b as a digit; 10 if it is none
--   number_in s   the number that the field s holds, or its first bad byte
--   dec n         the printed form of n, for any n of 32 bits (line numbers go to 999999)
--   last_three n  the last three digits of n
-- Theorems.antt: `number_in s` is n exactly if s is `dec n` and n is at most 65535.
-- Assumes nothing.
use Rattle.std.specs.Prelude.{ℕ, zero, suc, ◌+◌, ◌-◌, ◌*◌, ◌/◌, ◌%◌, List, [], ◌∷◌, ◌++◌, cond, ltb, leb, eqb}
use Rattle.std.specs.Prelude.{Result, Ok, Err}
use Rattle.text_fields.specs.Fields.{bad_byte}
use Rattle.text_fields.specs.declared.BadByte.{BadByte}

-- the bytes 48 to 57 are the digits 0 to 9
unfoldable pub digit_of : ℕ → ℕ
digit_of b = cond (ltb b 48) 10 (cond (ltb 57 b) 10 (b - 48))

-- "at most 65535"
abbrev pub largest : ℕ
largest = 65535

-- what the rest of a field makes of the k digits before it, whose value is v
unfoldable pub digits_from : ℕ → ℕ → List ℕ → Result ℕ BadByte
digits_from v k [] = Ok v
digits_from v k (b ∷ s) =
    cond (ltb (digit_of b) 10)
    (cond (leb (v * 10 + digit_of b) largest) (digits_from (v * 10 + digit_of b) (k + 1) s) (Err (bad_byte k)))
    (Err (bad_byte k))

-- "no leading zero but in 0 itself": what stands after a first digit 0
unfoldable pub after_zero : List ℕ → Result ℕ BadByte
after_zero [] = Ok 0
after_zero (b ∷ s) = Err (bad_byte 1)

unfoldable pub number_in : List ℕ → Result ℕ BadByte
number_in [] = Err (bad_byte 0)
number_in (b ∷ s) = cond (eqb b 48) (after_zero s) (digits_from 0 0 (b ∷ s))

-- the digits of n, the last one last; f bounds how many there are
unfoldable pub dec_within : ℕ → ℕ → List ℕ
dec_within zero n = []
dec_within (suc f) n = cond (ltb n 10) ((48 + n) ∷ []) (dec_within f (n / 10) ++ ((48 + n % 10) ∷ []))

-- a number of 32 bits has at most 10 digits
unfoldable pub dec : ℕ → List ℕ
dec n = dec_within 10 n

-- with zeros before them, if there are fewer
unfoldable pub last_three : ℕ → List ℕ
last_three n = (48 + (n / 100) % 10) ∷ (48 + (n / 10) % 10) ∷ (48 + n % 10) ∷ []
