-- Laws of the words that a command's fields stand for. Assumes nothing.
use Rattle.std.proofs.Common.{◌≡◌, ℕ, ◌+◌, ◌<◌, List, [], ◌∷◌, ◌++◌, length, replicate, Option, Some, None}
use Rattle.std.proofs.Common.{Result, Ok, Err, IsOk, OnErr, ◌↔◌, ap, arith}
use Rattle.std.proofs.Common.{suc, take, drop, get_or, sym, refl, ap₂, ◌∙◌, length-append, append_assoc, append-nil}
use Rattle.std.proofs.Common.{drop-cons, add-one}
use Rattle.std.proofs.lemmas.List.{length-replicate, take-append-drop}
use Rattle.std.proofs.Math.Seq.{take-suc, take-length}
use Rattle.std.proofs.lemmas.List.Splits.{length-slice_split}
use Rattle.std.specs.List.{slice_split}
use Rattle.std.specs.Option.{option_map}
use Rattle.edges.specs.Lines.{is_blank}
use Rattle.edges.specs.Commands.{repeat_in, words_in, joined, all_words, IsTooMuch}

-- a refusal, from what is not so then
pub on_err : {T E : Type 0} (r : Result T E) {P Q : Type 0} → IsOk r ↔ Q → ((Q → ⊥) → P) → OnErr r P
on_err (Ok x) b k = tt
on_err (Err e) b k = k (λ q. let y = b.1 q in cc)

pub err_of : {T E : Type 0} (r : Result T E) {P : Type 0} → P → OnErr r P
err_of (Ok x) h = tt
err_of (Err e) h = h

pub too_much : (f ws : List ℕ) (w n most : ℕ) → repeat_in f ≡ Some (w, n) → most < length ws + n
    → IsTooMuch most (joined (Some ws) (words_in f))
too_much f ws w n most e h vs g =
    let all : joined (Some ws) (words_in f) ≡ Some (ws ++ replicate n w) =
    ap (λ (r : Option (ℕ × ℕ)). joined (Some ws) (option_map (λ r. replicate r.1 r.0) r)) e in
    let same : vs ≡ ws ++ replicate n w = cc in
    omega (arith, ap length same, length-append ws (replicate n w), length-replicate {A = ℕ} n w)

-- ---- the words of many fields

joined_some : (v : Option (List ℕ)) → joined (Some []) v ≡ v
joined_some None = refl
joined_some (Some vs) = refl

joined_joined : (u v w : Option (List ℕ)) → joined (joined u v) w ≡ joined u (joined v w)
joined_joined None v w = refl
joined_joined (Some us) None w = refl
joined_joined (Some us) (Some vs) None = refl
joined_joined (Some us) (Some vs) (Some ws) = ap (λ (l : List ℕ). Some l) (append_assoc us vs ws)

all_words-append : (fs gs : List (List ℕ)) → all_words (fs ++ gs) ≡ joined (all_words fs) (all_words gs)
all_words-append [] gs = sym (joined_some (all_words gs))
all_words-append (f ∷ fs) gs =
    ap (joined (words_in f)) (all_words-append fs gs) ∙ sym (joined_joined (words_in f) (all_words fs) (all_words gs))

-- the fields from the k-th on, which is f
all_words_at : (fs : List (List ℕ)) (k : ℕ) (f ws : List ℕ) → all_words (take k fs) ≡ Some ws → k < length fs
    → f ≡ get_or fs k f → all_words fs ≡ joined (Some ws) (joined (words_in f) (all_words (drop (suc k) fs)))
all_words_at fs k f ws e h at =
    ap all_words (sym (take-append-drop k fs)) ∙ all_words-append (take k fs) (drop k fs)
    ∙ ap₂ joined e (ap all_words (drop-cons fs k f h ∙ ap (λ (g : List ℕ). g ∷ drop (suc k) fs) (sym at)))

joined_none : (v : Option (List ℕ)) → joined v (Some []) ≡ v
joined_none None = refl
joined_none (Some vs) = ap (λ (l : List ℕ). Some l) (append-nil vs)

-- one field more
pub all_words_more : (fs : List (List ℕ)) (k : ℕ) (f ws : List ℕ) → all_words (take k fs) ≡ Some ws → k < length fs
    → f ≡ get_or fs k f → all_words (take (k + 1) fs) ≡ joined (Some ws) (words_in f)
all_words_more fs k f ws e h at =
    rw add-one
    (ap all_words (take-suc fs k f h ∙ ap (λ (g : List ℕ). take k fs ++ (g ∷ [])) (sym at))
    ∙ all_words-append (take k fs) (f ∷ []) ∙ ap₂ joined e (joined_none (words_in f)))

much_more : (most : ℕ) (ws vs : List ℕ) (u v : Option (List ℕ)) → IsTooMuch most (joined (Some ws) u)
    → joined (Some ws) (joined u v) ≡ Some vs → most < length vs
much_more most ws vs None v m g = cc
much_more most ws vs (Some a) None m g = cc
much_more most ws vs (Some a) (Some b) m g =
    let same : ws ++ (a ++ b) ≡ vs = cc in
    omega (arith, m (ws ++ a) refl, ap length same, length-append {A = ℕ})

-- what is too much with the k-th field is too much with all
pub too_much_at : (most : ℕ) (fs : List (List ℕ)) (k : ℕ) (f ws : List ℕ) → all_words (take k fs) ≡ Some ws
    → k < length fs → f ≡ get_or fs k f → IsTooMuch most (joined (Some ws) (words_in f))
    → IsTooMuch most (all_words fs)
too_much_at most fs k f ws e h at much vs g =
    much_more most ws vs (words_in f) (all_words (drop (suc k) fs)) much (sym (all_words_at fs k f ws e h at) ∙ g)

-- a text has a part between blanks at least
pub parts_some : (c : List ℕ) → 0 < length (slice_split is_blank c)
parts_some c = omega (arith, length-slice_split is_blank c)

pub take_whole : (fs : List (List ℕ)) (n : ℕ) → n ≡ length fs → take n fs ≡ fs
take_whole fs n e = rw e (take-length fs)
