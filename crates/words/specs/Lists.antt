-- Lists of words: what every rule above says of a table or a report.
--
--   all_below n f       every number below n passes f
--   Decides says f      of each word of 16 bits, whatever answer says gives is that of f: what a test that is handed in
--                       may answer
--   is v w              w is the word v
--   places f i ws       the places of the words that pass f, counted from i, rising
--   changed f x w       w, or x where w passes f
--   replaced f x ws     ws with each word that passes f made x
--   count f ws          how many words pass f
--   over xs ws          ws with its first words written over by xs
--   In x xs, Rising xs  x is one of xs; each of xs is less than the next
-- Assumes nothing.
use Rattle.std.specs.Prelude.{ℕ, zero, suc, ◌+◌, ◌<◌, ◌≡◌, List, [], ◌∷◌, ◌++◌, map, Bool, true, cond, ◌&&◌, eqb}
use Rattle.std.specs.Prelude.{length, drop}

unfoldable pub all_below : ℕ → (ℕ → Bool) → Bool
all_below zero f = true
all_below (suc n) f = all_below n f && f n

abbrev pub Decides : (ℕ → Bool → Type 0) → (ℕ → Bool) → Type 0
Decides says f = (w : ℕ) (answer : Bool) → w < 65536 → says w answer → answer ≡ f w

unfoldable pub is : ℕ → ℕ → Bool
is v w = eqb w v

unfoldable pub places : (ℕ → Bool) → ℕ → List ℕ → List ℕ
places f i [] = []
places f i (w ∷ ws) = cond (f w) (i ∷ places f (suc i) ws) (places f (suc i) ws)

unfoldable pub changed : (ℕ → Bool) → ℕ → ℕ → ℕ
changed f x w = cond (f w) x w

abbrev pub replaced : (ℕ → Bool) → ℕ → List ℕ → List ℕ
replaced f x ws = map (changed f x) ws

unfoldable pub count : (ℕ → Bool) → List ℕ → ℕ
count f [] = 0
count f (w ∷ ws) = cond (f w) 1 0 + count f ws

-- "The report is written from its start; words after those named stay as they were."
unfoldable pub over : List ℕ → List ℕ → List ℕ
over xs ws = xs ++ drop (length xs) ws

pub data In (x : ℕ) : List ℕ → Type 0 where
  top : {xs : List ℕ} → In x (x ∷ xs)
  pop : {y : ℕ} {xs : List ℕ} → In x xs → In x (y ∷ xs)

pub data Rising : List ℕ → Type 0 where
  none : Rising []
  one : {x : ℕ} → Rising (x ∷ [])
  more : {x y : ℕ} {xs : List ℕ} → x < y → Rising (y ∷ xs) → Rising (x ∷ y ∷ xs)
