-- What is promised of the program's run. Assumes nothing.
use Rattle.std.proofs.Common.{◌≡◌, ℕ, ◌<◌, Bool, true, false, ◌⊎◌, List, [], ◌++◌, length, sym, refl, ap, ◌∙◌, subst}
use Rattle.std.proofs.Common.{inl, inr, append-nil, mod-eq_of_lt, arith, Option, Some, None, IfSome}
use Rattle.std.specs.Io.KnownBytes.{Appends, Consumes, IsAtEnd}
use Rattle.words.proofs.BoolLaws.{clash}
use Rattle.rules.specs.Tables.{tables}
use Rattle.line_serving.specs.Input.{Desk, opening, feed, ended, printed}
use Rattle.line_serving.proofs.Theorems.{printed_most, ended_stopped, fed_stopped, in_pieces}
use Rattle.bench.specs.declared.Reading.{Reading}
use Rattle.bench.specs.declared.Reading.TheVariants.{Open, Ended, Failed}
use Rattle.bench.specs.declared.State.{State}
use Rattle.bench.specs.Carrying.{wrapped, Waiting, At}
use Rattle.bench.specs.Running.{has_ended, has_failed, desk_after, RanTo, Runs, Heard, Answers}

-- where nothing waits, all that was said was handed to write
all_put : (said : List ℕ) (s : State) (held holds : Option (List ℕ)) → Waiting said s held holds → s.used ≡ 0
    → s.put ≡ wrapped (length said)
all_put said s held holds w e =
    let z : said ≡ w.gone = rw (e, append-nil) at w.rest in
    w.count ∙ ap (λ (t : List ℕ). wrapped (length t)) (sym z)

-- and the output took it
all_taken : (said : List ℕ) (s : State) (held holds : Option (List ℕ)) → Waiting said s held holds → s.used ≡ 0
    → Appends held holds said
all_taken said s held holds w e = let z : said ≡ w.gone = rw (e, append-nil) at w.rest in rw z w.taken

-- an input that has ended, and not by a read that failed
at_its_end : (g : Reading) → has_ended g ≡ true → has_failed g ≡ false → g ≡ Ended
at_its_end Open e f = clash cc
at_its_end Ended e f = refl
at_its_end Failed e f = clash cc

-- the input's bytes, and the desk that they lead to, where the run is at its end
module _ {n : ℕ} {s : State} {had has held holds : Option (List ℕ)} (w : RanTo n true s had has held holds) where
  abbrev Z : Desk
  Z = feed opening w.input

  stopped_desk : has_ended s.reading ≡ false → s.going ≡ false → Z.going ≡ false
  stopped_desk e f = let at : At Z s held holds = rw e at (w.at refl) in at.going ∙ f

  whole : (has_ended s.reading ≡ true) ⊎ (s.going ≡ false) → At (ended Z) s held holds
  whole k = subst (λ (d : Desk). At d s held holds) (desk (has_ended s.reading) refl k) (w.at refl)
    where
      desk : (b : Bool) → has_ended s.reading ≡ b → (b ≡ true) ⊎ (s.going ≡ false)
          → desk_after b w.input ≡ ended Z
      desk true e k = refl
      desk false e (inl f) = clash cc
      desk false e (inr f) = sym (ended_stopped Z (stopped_desk e f))

  -- AN OUTPUT THAT TAKES ALL GETS WHAT IS PRINTED FOR THE INPUT, where the bytes of both are known: these bytes, in
  -- this order, and no others
  pub what_is_known_is_answered : Heard s → (s.reading ≡ Ended → IsAtEnd has) → Answers had held holds
  unfolding printed
  what_is_known_is_answered k e = go had has w.brought refl
    where
      got : Appends held holds (printed w.input)
      got = all_taken (ended Z).said s held holds (whole k.1).waits w.nothing_waits

      -- what is left of the input changes nothing
      rest : (left : List ℕ) → has ≡ Some left → (b : Bool) → has_ended s.reading ≡ b
          → (b ≡ true) ⊎ (s.going ≡ false) → printed (w.input ++ left) ≡ printed w.input
      rest left f true h m =
          let z : left ≡ [] = rw f at (e (at_its_end s.reading h k.0)) in rw (z, append-nil) refl
      rest left f false h (inl m) = clash cc
      rest left f false h (inr m) =
          ap (λ (d : Desk). (ended d).said)
          (in_pieces opening w.input left ∙ fed_stopped Z left (stopped_desk h m))

      go : (u v : Option (List ℕ)) → Consumes u v w.input → has ≡ v
          → IfSome u (λ s. Appends held holds (printed s))
      go None v c h = tt
      go (Some s) None c h = absurd c
      go (Some s') (Some left) c h = rw (c, rest left h (has_ended s.reading) refl k.1) got

module _ {s : State} {had has held holds : Option (List ℕ)} (w : Runs true s had has held holds) where
  abbrev I : List ℕ
  I = w.reached.input

  -- THE RUN PRINTS WHAT IS PRINTED FOR ITS INPUT: where its end came, or no more lines are taken, and the output took
  -- all, the tables and the report are those of the whole input, and as many bytes were handed to write as are printed
  -- for it
  pub the_whole_input_is_answered : (has_ended s.reading ≡ true) ⊎ (s.going ≡ false)
      → (tables s.tasks s.promises ≡ (ended (feed opening I)).after) × (s.report ≡ (ended (feed opening I)).report)
      × (s.put ≡ length (printed I))
  unfolding printed
  the_whole_input_is_answered k = (sym there.after, sym there.report, put)
    where
      there : At (ended (feed opening I)) s held holds
      there = whole w.reached k

      few : length (ended (feed opening I)).said < 18446744073709551616
      few = omega (arith, printed_most I)

      put : s.put ≡ length (ended (feed opening I)).said
      put =
          all_put (ended (feed opening I)).said s held holds there.waits w.reached.nothing_waits
          ∙ mod-eq_of_lt few
