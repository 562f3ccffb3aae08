-- What a writer leaves in a buffer that it was lent. Paper: 01, "Lines", "bytes after its LF stay", and "The five
-- steps", "The report is written from its start; words after those named stay as they were".
--
--   fitting t o       as much of the text t as the buffer o has room for
--   Wrote t o x r     the text t was written at the front of o: x is what o holds then, and r how many bytes were
--                     written
--   Added t o at x r  the text t was written into o from the place `at` on; r is the place after it
-- Assumes nothing.
use Rattle.std.specs.Prelude.{ℕ, ◌+◌, List, ◌++◌, ◌≡◌, length, take, drop}
use Rattle.words.specs.Lists.{over}

unfoldable pub fitting : List ℕ → List ℕ → List ℕ
fitting t o = take (length o) t

-- "each returning how many bytes it wrote"
pub record Wrote (t o x : List ℕ) (r : ℕ) : Type 0 where
  pub count : r ≡ length (fitting t o)
  pub text : x ≡ over (fitting t o) o

-- "go into the rest of the lent answer line": the bytes before `at` stay, and the text is written over the rest
pub record Added (t o : List ℕ) (at : ℕ) (x : List ℕ) (r : ℕ) : Type 0 where
  pub end : r ≡ at + length (fitting t (drop at o))
  pub text : x ≡ take at o ++ over (fitting t (drop at o)) (drop at o)
