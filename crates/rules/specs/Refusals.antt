-- The refusals by number, in their order. Paper: 01, "Refusals by number, in this order"; 02, 3/13.
--
--   refusal_number r, refused_by x         the number of a refusal; that by which x is refused, 0 where it is not
--   Row, first rows                        a number and whether it applies; the first that applies, 0 where none does
--   earlier a b                            the first of two refusals, where 0 is none
--   bounds_rows F n s                      1, of all steps; n is the report's length
--   table_rows F n s                       1 and 2, of all steps
--   actor_rows ts t                        3, 4 and 5, of all steps
--   child_rows ts c                        11 and 12
--   new_rows ps p                          6 and 7
--   get_rows ps p                          6 and 8
--   own_rows B ps t p                      6, 8, 9, 17 and 10
--   entry_rows B ps t l i                  6, 8, 9, 17, 10 and 13, of entry i of an async list
--   first_bad f n i                        of the n places from i on, the first that f refuses; i + n where f refuses
--                                          none of them
--   fresh_rows F T P, fresh_refusal F T P  1, of making tables fresh: by their sizes alone
-- Assumes nothing.
use Rattle.std.specs.Prelude.{ℕ, zero, suc, List, [], ◌∷◌, ◌++◌, Bool, cond, not, eqb, leb, ltb, length, get_or}
use Rattle.std.specs.Prelude.{Result, Ok, Err}
use Rattle.rules.specs.declared.Refusal.{Refusal}
use Rattle.rules.specs.declared.Refusal.TheVariants.{OutOfBounds, Damaged, NoTask, NotLive, Waits, NoPromise}
use Rattle.rules.specs.declared.Refusal.TheVariants.{AlreadyMade, NeverMade, AlreadySet, NotOwner, NoChild, ChildInUse}
use Rattle.rules.specs.declared.Refusal.TheVariants.{ListedTwice, BadLine, OutOfTurn, BadPart, Blamed}
use Rattle.words.specs.Words.{Form, sizes_in_bounds, unused_word, unmade_word, set_word, owned_by}
use Rattle.words.specs.Lists.{all_below}
use Rattle.rules.specs.Tables.{Tables, live, waiting, in_bounds}
use Rattle.rules.specs.Sound.{sound_test}

abbrev pub refusal_number : Refusal → ℕ
refusal_number OutOfBounds = 1
refusal_number Damaged = 2
refusal_number NoTask = 3
refusal_number NotLive = 4
refusal_number Waits = 5
refusal_number NoPromise = 6
refusal_number AlreadyMade = 7
refusal_number NeverMade = 8
refusal_number AlreadySet = 9
refusal_number NotOwner = 10
refusal_number NoChild = 11
refusal_number ChildInUse = 12
refusal_number ListedTwice = 13
refusal_number BadLine = 14
refusal_number OutOfTurn = 15
refusal_number BadPart = 16
refusal_number Blamed = 17

abbrev pub refused_by : {A : Type 0} → Result A Refusal → ℕ
refused_by (Ok x) = 0
refused_by (Err r) = refusal_number r

abbrev pub Row : Type 0
Row = ℕ × Bool

-- "The first that applies, from the top, is the answer."
unfoldable pub first : List Row → ℕ
first [] = 0
first ((r, applies) ∷ rows) = cond applies r (first rows)

unfoldable pub earlier : ℕ → ℕ → ℕ
earlier a b = cond (eqb a 0) b a

abbrev pub bounds_rows : Form → ℕ → Tables → List Row
bounds_rows F n s =
    (1, not (in_bounds F n s))  -- "T, P or report length is outside its bounds"
    ∷ []

abbrev pub table_rows : Form → ℕ → Tables → List Row
table_rows F n s =
    bounds_rows F n s
    ++ (2, not (sound_test F.base s))  -- "tables damaged"
    ∷ []

abbrev pub actor_rows : List ℕ → ℕ → List Row
actor_rows ts t =
    (3, not (ltb t (length ts)))  -- "acting task not below T"
    ∷ (4, not (live (get_or ts t 0)))  -- "acting task never used or ended"
    ∷ (5, waiting (get_or ts t 0))  -- "acting task waits"
    ∷ []

abbrev pub child_rows : List ℕ → ℕ → List Row
child_rows ts c =
    (11, not (ltb c (length ts)))  -- "child not below T"
    ∷ (12, not (eqb (get_or ts c 0) unused_word))  -- "child's word is not 0"
    ∷ []

abbrev pub new_rows : List ℕ → ℕ → List Row
new_rows ps p =
    (6, not (ltb p (length ps)))  -- "promise not below P"
    ∷ (7, not (eqb (get_or ps p 0) unmade_word))  -- "promise already made"
    ∷ []

abbrev pub get_rows : List ℕ → ℕ → List Row
get_rows ps p =
    (6, not (ltb p (length ps)))  -- "promise not below P"
    ∷ (8, eqb (get_or ps p 0) unmade_word)  -- "promise never made"
    ∷ []

abbrev pub own_rows : ℕ → List ℕ → ℕ → ℕ → List Row
own_rows B ps t p =
    (6, not (ltb p (length ps)))  -- "promise not below P"
    ∷ (8, eqb (get_or ps p 0) unmade_word)  -- "promise never made"
    ∷ (9, eqb (get_or ps p 0) set_word)  -- "9 is given for a set promise alone"
    ∷ (17, leb B (get_or ps p 0))  -- "A set or async on a blamed promise", "directly after 9"
    ∷ (10, not (eqb (get_or ps p 0) (owned_by t)))  -- "acting task is not the owner"
    ∷ []

-- entry j of the list is not q
unfoldable pub differs : List ℕ → ℕ → ℕ → Bool
differs list q j = not (eqb (get_or list j 0) q)

-- "each entry is tried for 6, 8, 9, 10, 13 in turn", and for 17 directly after 9
abbrev pub entry_rows : ℕ → List ℕ → ℕ → List ℕ → ℕ → List Row
entry_rows B ps t list i =
    own_rows B ps t (get_or list i 0)
    ++ (13, not (all_below i (differs list (get_or list i 0))))  -- "entry equals an earlier one"
    ∷ []

unfoldable pub entry_refusal : ℕ → List ℕ → ℕ → List ℕ → ℕ → ℕ
entry_refusal B ps t list i = first (entry_rows B ps t list i)

-- the first bad one of the places i to i + n - 1, or i + n: f gives each place its refusal, or 0
unfoldable pub first_bad : (ℕ → ℕ) → ℕ → ℕ → ℕ
first_bad f zero i = i
first_bad f (suc n) i = cond (eqb (f i) 0) (first_bad f n (suc i)) i

-- "a refused open (T not 1 to 64, P above 256: refusal 1)"
abbrev pub fresh_rows : Form → ℕ → ℕ → List Row
fresh_rows F T P = (1, not (sizes_in_bounds F T P)) ∷ []

unfoldable pub fresh_refusal : Form → ℕ → ℕ → ℕ
fresh_refusal F T P = first (fresh_rows F T P)
