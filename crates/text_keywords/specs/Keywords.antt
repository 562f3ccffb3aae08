-- The words that start a line. Paper: 01, "Lines", "`open T P`, `new t p`, `set t p`, `get t p`, `async t c p..`,
-- `end t`"; the place of a bad byte follows 02, request 1, "the first byte with which the line so far stops being the
-- start of any".
--
--   text_of w     the bytes of the word w
--   keywords      the six words: the table that a field is looked up in
--   same s t      whether two lists of bytes are the same
--   common s t    how many bytes two lists begin with alike
--   longest s ws  how far s goes along with some word of the table ws
--   On w ws       the word w stands in the table ws
--   keyword_of s  the word that the field s is, or its first bad byte
--   StopsAt s k   what that place is: k bytes of s begin some word, and no more do
-- Assumes nothing.
use Rattle.std.specs.Prelude.{ℕ, suc, ◌≤◌, ◌<◌, List, [], ◌∷◌, Bool, true, false, cond, ◌≡◌, eqb, ltb, length, take}
use Rattle.std.specs.Prelude.{Result, Ok, Err}
use Rattle.text_keywords.specs.declared.Keyword.{Keyword}
use Rattle.text_keywords.specs.declared.Keyword.TheVariants.{Open, Step}
use Rattle.text_fields.specs.Fields.{bad_byte}
use Rattle.text_fields.specs.declared.BadByte.{BadByte}
use Rattle.step_kinds.specs.declared.Kind.TheVariants.{New, Set, Get, Async, End}

-- A NEW WORD is one line here, and its place in `keywords`.
unfoldable pub text_of : Keyword → List ℕ
text_of Open = 111 ∷ 112 ∷ 101 ∷ 110 ∷ []
text_of (Step New) = 110 ∷ 101 ∷ 119 ∷ []
text_of (Step Set) = 115 ∷ 101 ∷ 116 ∷ []
text_of (Step Get) = 103 ∷ 101 ∷ 116 ∷ []
text_of (Step Async) = 97 ∷ 115 ∷ 121 ∷ 110 ∷ 99 ∷ []
text_of (Step End) = 101 ∷ 110 ∷ 100 ∷ []

unfoldable pub keywords : List Keyword
keywords = Open ∷ Step New ∷ Step Set ∷ Step Get ∷ Step Async ∷ Step End ∷ []

unfoldable pub same : List ℕ → List ℕ → Bool
same [] [] = true
same [] (b ∷ t) = false
same (a ∷ s) [] = false
same (a ∷ s) (b ∷ t) = cond (eqb a b) (same s t) false

unfoldable pub common : List ℕ → List ℕ → ℕ
common [] t = 0
common (a ∷ s) [] = 0
common (a ∷ s) (b ∷ t) = cond (eqb a b) (suc (common s t)) 0

-- the larger of two numbers
unfoldable pub larger : ℕ → ℕ → ℕ
larger a b = cond (ltb a b) b a

unfoldable pub longest : List ℕ → List Keyword → ℕ
longest s [] = 0
longest s (w ∷ ws) = larger (common s (text_of w)) (longest s ws)

-- the word of the table that s is; if it is none, the byte at the place k is bad
unfoldable pub lookup : List ℕ → ℕ → List Keyword → Result Keyword BadByte
lookup s k [] = Err (bad_byte k)
lookup s k (w ∷ ws) = cond (same s (text_of w)) (Ok w) (lookup s k ws)

unfoldable pub keyword_of : List ℕ → Result Keyword BadByte
keyword_of s = lookup s (longest s keywords) keywords

-- a word stands first in a table, or later in it
pub data On (w : Keyword) : List Keyword → Type 0 where
  here : {ws : List Keyword} → On w (w ∷ ws)
  later : {v : Keyword} {ws : List Keyword} → On w ws → On w (v ∷ ws)

-- "the first byte with which the line so far stops being the start of any": k bytes of the field begin some word;
-- with one more they begin none, or only the end came too early
pub record StopsAt (s : List ℕ) (k : ℕ) : Type 0 where
  pub within : k ≤ length s
  pub start : (w : Keyword) × On w keywords × (take k s ≡ take k (text_of w))
  pub stop : k < length s → (w : Keyword) → On w keywords → take (suc k) s ≡ take (suc k) (text_of w) → ⊥
  pub none : (w : Keyword) → On w keywords → s ≡ text_of w → ⊥
