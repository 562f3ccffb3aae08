-- Laws of specs/Flat.antt: a record of the words, their number, and the ways out of a call.
-- Assumes nothing.
use Prim.Native.Nat.{ℕ, zero, suc, ◌+◌, ◌*◌, ◌/◌, ◌≤◌, ◌<◌, min}
use mathlib.Core.Path.{◌≡◌, refl, sym, ap, ◌∙◌}
use mathlib.Core.List.{List, [], ◌∷◌, ◌++◌}
use mathlib.Core.Bool.{true, false, ◌&&◌}
use native.Mathlib.Omega.{arith}
use lib.Dec.{leb}
use lib.ListN.{length, take, drop}
use Rattle.words.specs.Words.{Form}
use Rattle.words.proofs.BoolLaws.{true_is_not_false, and_split}
use Rattle.words.proofs.ListLaws.{over_none}
use Rattle.rules.specs.Tables.{Tables}
use Rattle.std.specs.Prelude.{Result, Ok, Err}
use Rattle.rules.specs.declared.Refusal.{Refusal}
use Rattle.rules.specs.declared.Refusal.TheVariants.{OutOfBounds}
use Rattle.rules.specs.Refusals.{refused_by}
use Rattle.batch.specs.Batches.{record_at, CallOutcome, batched, numbered, Batches}
use Rattle.batch_words.specs.Flat.{record_in, records_of, is_record, is_flat, called_number, flatly, Flats}

-- ---- whether the words are records

-- the words of a chunk, which is short only at the end, and those behind it
flat_chunk : (xs ws : List ℕ) → length xs ≡ min 5 (length (xs ++ ws)) → 0 < length (xs ++ ws)
    → is_flat (xs ++ ws) ≡ (is_record xs && is_flat ws)
unfolding is_flat
flat_chunk [] [] e h = absurd (omega arith)
flat_chunk [] (w ∷ ws) e h = absurd (omega arith)
flat_chunk (k ∷ []) [] e h = refl
flat_chunk (k ∷ []) (w ∷ ws) e h = absurd (omega arith)
flat_chunk (k ∷ t ∷ []) [] e h = refl
flat_chunk (k ∷ t ∷ []) (w ∷ ws) e h = absurd (omega arith)
flat_chunk (k ∷ t ∷ o ∷ []) [] e h = refl
flat_chunk (k ∷ t ∷ o ∷ []) (w ∷ ws) e h = absurd (omega arith)
flat_chunk (k ∷ t ∷ o ∷ a ∷ []) [] e h = refl
flat_chunk (k ∷ t ∷ o ∷ a ∷ []) (w ∷ ws) e h = absurd (omega arith)
flat_chunk (k ∷ t ∷ o ∷ a ∷ n ∷ []) ws e h = refl
flat_chunk (k ∷ t ∷ o ∷ a ∷ n ∷ x ∷ xs) ws e h = absurd (omega arith)

pub flat_next : (us xs ws : List ℕ) (n : ℕ) → n ≡ 5 → us ≡ xs ++ ws → length xs ≡ min n (length us) → 0 < length us
    → is_flat us ≡ (is_record xs && is_flat ws)
flat_next us xs ws n five e fit more =
    rw e (flat_chunk xs ws (rw (e, five) at fit) (rw e at more))

pub flat_end : (ws : List ℕ) → length ws ≡ 0 → is_flat ws ≡ true
unfolding is_flat
flat_end [] e = refl
flat_end (k ∷ ws) e = absurd (omega arith)

-- records take whole fives
pub flat_fives : (ws : List ℕ) → is_flat ws ≡ true → length ws ≡ (length ws / 5) * 5
unfolding is_flat
flat_fives [] e = refl
flat_fives (k ∷ []) e = absurd (true_is_not_false (sym e))
flat_fives (k ∷ t ∷ []) e = absurd (true_is_not_false (sym e))
flat_fives (k ∷ t ∷ o ∷ []) e = absurd (true_is_not_false (sym e))
flat_fives (k ∷ t ∷ o ∷ a ∷ []) e = absurd (true_is_not_false (sym e))
flat_fives (k ∷ t ∷ o ∷ a ∷ n ∷ ws) e = omega (arith, flat_fives ws (and_split (leb k 4) (is_flat ws) e).1)

-- ---- the records

pub records_count : (ws : List ℕ) → length (records_of ws) ≡ length ws / 5
unfolding records_of
records_count [] = refl
records_count (k ∷ []) = refl
records_count (k ∷ t ∷ []) = refl
records_count (k ∷ t ∷ o ∷ []) = refl
records_count (k ∷ t ∷ o ∷ a ∷ []) = refl
records_count (k ∷ t ∷ o ∷ a ∷ m ∷ ws) = omega (arith, records_count ws)

-- the words of each record stand within the others
pub records_within : (ws : List ℕ) (i : ℕ) → i < length (records_of ws) → 5 * i + 5 ≤ length ws
records_within ws i h = omega (arith, records_count ws)

-- the i-th record is that of the five words behind those of the records before it
pub records_at : (ws : List ℕ) (i : ℕ) → i < length (records_of ws)
    → record_in (take 5 (drop (5 * i) ws)) 0 ≡ record_at (records_of ws) i
unfolding records_of record_in
records_at [] i h = absurd (omega arith)
records_at (k ∷ []) i h = absurd (omega arith)
records_at (k ∷ t ∷ []) i h = absurd (omega arith)
records_at (k ∷ t ∷ o ∷ []) i h = absurd (omega arith)
records_at (k ∷ t ∷ o ∷ a ∷ []) i h = absurd (omega arith)
records_at (k ∷ t ∷ o ∷ a ∷ m ∷ ws) zero h = refl
records_at (k ∷ t ∷ o ∷ a ∷ m ∷ ws) (suc i) h =
    let e : 5 * suc i ≡ suc (suc (suc (suc (suc (5 * i))))) = omega arith in
    rw e (records_at ws i (omega arith))

-- ---- the ways out of a call

module _ (F : Form) (list : List ℕ) (s : Tables) (ws rs vs : List ℕ) where
  -- the words are no records
  pub flat_refused : is_flat ws ≡ false
      → Batches (flatly F list s ws (length rs) (length vs)) rs vs (Err OutOfBounds) s rs vs
  unfolding flatly
  flat_refused e = rw e (record
      { answer = refl; after = refl; report = sym (over_none rs); answers = sym (over_none vs) })

  -- they are the call by the records
  pub flat_batches : {c : Result ℕ Refusal} {s' : Tables} {rs' vs' : List ℕ} → is_flat ws ≡ true
      → Batches (batched F list s (records_of ws) (length rs) (length vs)) rs vs c s' rs' vs'
      → Batches (flatly F list s ws (length rs) (length vs)) rs vs c s' rs' vs'
  unfolding flatly
  flat_batches e g = rw e g

-- the answer to the call as a number
as_number : (c : Result ℕ Refusal) → refused_by c ≡ called_number (numbered c)
unfolding called_number
as_number (Ok n) = refl
as_number (Err r) = refl

pub flat_number : {o : CallOutcome} {rs vs : List ℕ} {c : Result ℕ Refusal} {r : ℕ} {s' : Tables} {rs' vs' : List ℕ}
    → Batches o rs vs c s' rs' vs' → r ≡ refused_by c → Flats o rs vs r s' rs' vs'
flat_number {c = c} g e = record {
  number = e ∙ as_number c ∙ ap called_number g.answer;
  after = g.after;
  report = g.report;
  answers = g.answers;
}
