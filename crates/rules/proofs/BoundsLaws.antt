-- Laws of specs/Tables.antt: the test of lengths, as a test and as facts, and that it asks for nothing but lengths;
-- what a live task's word is; a part put back. Assumes nothing.
use Prim.Native.Nat.{ℕ, ◌≤◌}
use mathlib.Core.Path.{◌≡◌, refl, ap₂, ◌∙◌}
use mathlib.Core.Logic.{◌⊎◌, inl, inr}
use mathlib.Core.List.{List}
use mathlib.Core.Bool.{true}
use lib.Dec.{eqb, leb}
use lib.ListN.{length, take-append-drop}
use borrow.Author.Tests.{eqb-true, eq-eqb, leb-true, le-leb}
use Rattle.words.specs.Words.{Form, large, form_of, ready_word, first_wait}
use Rattle.words.specs.declared.FormName.{FormName}
use Rattle.words.proofs.BoolLaws.{and_split, and_yes, or_split, or_left, or_right}
use Rattle.words.proofs.WordLaws.{Sizes, sizes_in_bounds_true, sizes_in_bounds_of, within_large}
use Rattle.rules.specs.Tables.{Tables, tables, with_tasks, with_promises, with_words, part_of, put_back, sizes_fit}
use Rattle.rules.specs.Tables.{room_of, in_bounds, Live}

abbrev pub Fitting : Form → Tables → Type 0
Fitting F s = Sizes F (length s.tasks) (length s.promises)

pub sizes_fit_true : (F : Form) (s : Tables) → sizes_fit F s ≡ true → Fitting F s
unfolding sizes_fit
sizes_fit_true F s e = sizes_in_bounds_true F (length s.tasks) (length s.promises) e

pub sizes_fit_of : (F : Form) (s : Tables) → Fitting F s → sizes_fit F s ≡ true
unfolding sizes_fit
sizes_fit_of F s b = sizes_in_bounds_of F (length s.tasks) (length s.promises) b

-- all lengths are within their bounds
pub record Bounds (F : Form) (n : ℕ) (s : Tables) : Type 0 where
  pub some : 1 ≤ length s.tasks
  pub tasks : length s.tasks ≤ F.most_tasks
  pub promises : length s.promises ≤ F.most_promises
  pub room : room_of s ≤ n

pub in_bounds_sizes : (F : Form) (n : ℕ) (s : Tables) → in_bounds F n s ≡ true → sizes_fit F s ≡ true
unfolding in_bounds
in_bounds_sizes F n s e = (and_split (sizes_fit F s) (leb (room_of s) n) e).0

pub in_bounds_room : (F : Form) (n : ℕ) (s : Tables) → in_bounds F n s ≡ true → room_of s ≤ n
unfolding in_bounds
in_bounds_room F n s e = leb-true (room_of s) n (and_split (sizes_fit F s) (leb (room_of s) n) e).1

pub in_bounds_both : (F : Form) (n : ℕ) (s : Tables) → sizes_fit F s ≡ true → room_of s ≤ n → in_bounds F n s ≡ true
unfolding in_bounds
in_bounds_both F n s e h = and_yes (sizes_fit F s) (leb (room_of s) n) e (le-leb (room_of s) n h)

pub in_bounds_true : (F : Form) (n : ℕ) (s : Tables) → in_bounds F n s ≡ true → Bounds F n s
in_bounds_true F n s e =
    let f = sizes_fit_true F s (in_bounds_sizes F n s e) in
    record { some = f.some; tasks = f.tasks; promises = f.promises; room = in_bounds_room F n s e }

pub in_bounds_of : (F : Form) (n : ℕ) (s : Tables) → Bounds F n s → in_bounds F n s ≡ true
in_bounds_of F n s b =
    let sizes = sizes_fit_of F s (record { some = b.some; tasks = b.tasks; promises = b.promises }) in
    in_bounds_both F n s sizes b.room

-- tables of any form are within the bounds of the large one
pub fits_large : (form : FormName) (s : Tables) → sizes_fit (form_of form) s ≡ true → sizes_fit large s ≡ true
unfolding sizes_fit
fits_large form s e = within_large form (length s.tasks) (length s.promises) e

pub fitting_any : (form : FormName) (s : Tables) → sizes_fit (form_of form) s ≡ true → Fitting large s
fitting_any form s e = sizes_fit_true large s (fits_large form s e)

pub bounds_any : (form : FormName) (n : ℕ) (s : Tables) → in_bounds (form_of form) n s ≡ true → Bounds large n s
bounds_any form n s e =
    let sizes = fits_large form s (in_bounds_sizes (form_of form) n s e) in
    in_bounds_true large n s (in_bounds_both large n s sizes (in_bounds_room (form_of form) n s e))

-- the tables s' are as long as the tables s
pub record AsLong (s' s : Tables) : Type 0 where
  pub tasks : length s'.tasks ≡ length s.tasks
  pub promises : length s'.promises ≡ length s.promises

pub as_long : (s : Tables) → AsLong s s
as_long s = record { tasks = refl; promises = refl }

pub long_tasks : (s : Tables) {ts : List ℕ} → length ts ≡ length s.tasks → AsLong (with_tasks s ts) s
long_tasks s e = record { tasks = e; promises = refl }

pub long_promises : (s : Tables) {ps : List ℕ} → length ps ≡ length s.promises → AsLong (with_promises s ps) s
long_promises s e = record { tasks = refl; promises = e }

pub long_words : (s : Tables) {ts ps : List ℕ} → length ts ≡ length s.tasks → length ps ≡ length s.promises
    → AsLong (with_words s ts ps) s
long_words s e f = record { tasks = e; promises = f }

pub as_long_too : {s'' s' s : Tables} → AsLong s'' s' → AsLong s' s → AsLong s'' s
as_long_too a b = record { tasks = a.tasks ∙ b.tasks; promises = a.promises ∙ b.promises }

pub sizes_fit_kept : (F : Form) {s' s : Tables} → AsLong s' s → sizes_fit F s ≡ true → sizes_fit F s' ≡ true
unfolding sizes_fit
sizes_fit_kept F l b = rw (l.tasks, l.promises) b

-- ---- live tasks

pub live_ready : (w : ℕ) → w ≡ ready_word → Live w
live_ready w e = or_left _ _ (eq-eqb w ready_word e)

pub live_waits : (w : ℕ) → first_wait ≤ w → Live w
live_waits w h = or_right (eqb w ready_word) _ (le-leb first_wait w h)

pub live_is : (w : ℕ) → Live w → (w ≡ ready_word) ⊎ (first_wait ≤ w)
live_is w e = go (or_split _ _ e)
  where
    go : (eqb w ready_word ≡ true) ⊎ (leb first_wait w ≡ true) → (w ≡ ready_word) ⊎ (first_wait ≤ w)
    go (inl a) = inl (eqb-true w ready_word a)
    go (inr a) = inr (leb-true first_wait w a)

-- ---- a part that is put back as it was

pub put_back_same : (T P : ℕ) (s : Tables) → put_back T P s (part_of T P s) ≡ s
put_back_same T P s = ap₂ tables (take-append-drop T s.tasks) (take-append-drop P s.promises)
