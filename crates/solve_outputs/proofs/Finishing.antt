-- Before and after the search, as the code goes: the sizes as they are counted; the incumbent handed out, with as many components and choices as a leaf has;
-- the answer by whether there is an incumbent; and by the answer of the search. Assumes nothing.
use mathlib.Core.Path.{◌≡◌, refl, sym, ap, ◌∙◌}
use mathlib.Core.Bool.{Bool, true, false}
use mathlib.Core.List.{List}
use Prim.Native.Nat.{ℕ}
use native.Mathlib.Omega.{arith}
use lib.ListN.{length}
use Rattle.std.specs.Prelude.{Some, None, Result, Ok, Err}
use Rattle.resolved_sort.specs.declared.Counts.{Counts}
use Rattle.resolved_sort.specs.declared.Refusal.{Refusal}
use Rattle.resolved_sort.specs.Storage.{given_back}
use Rattle.unification.specs.declared.Full.{Full}
use Rattle.unification.specs.declared.Full.TheVariants.{Sorts, Nodes}
use Rattle.unification.specs.declared.Lengths.{Lengths}
use Rattle.unification.specs.Full.{refusal_of}
use Rattle.inference.specs.declared.Verdict.TheVariants.{NoTyping, Ambiguous, Typing}
use Rattle.inference.specs.Constraints.{BaseName}
use Rattle.inference.specs.SolveChecks.{disjunctions, components}
use Rattle.inference.specs.Rising.{rising}
use Rattle.inference.specs.SolveEntry.{typing_rows, choice_rows, written_over, room_refusal}
use Rattle.search_state.specs.declared.Sizes.{Sizes}
use Rattle.search_state.specs.declared.Incumbent.{Incumbent}
use Rattle.search_state.specs.declared.Search.{Search}
use Rattle.search_state.specs.Inner.Leaves.{code_of}
use Rattle.search_state.specs.Inner.Memory.{problem_in, choices_kept, best_sorts_at, best_measure_at, candidate_of, best_of}
use Rattle.words.specs.Words.{part}
use Rattle.words.proofs.Parts.{length_part}
use Rattle.solve_checks.specs.declared.Problem.{Problem}
use Rattle.solve_checks.specs.Inner.Calls.{call_for, constraint_rows}
use Rattle.solve_outputs.specs.Inner.Begin.{sizes_of}
use Rattle.solve_outputs.proofs.Choosing.{choices_as_counted}
use Rattle.solve_outputs.specs.declared.Handout.{Handout}
use Rattle.solve_outputs.specs.Inner.Finish.{Answered, answered, settled, handed_out, Handable}
use Rattle.solve_outputs.specs.Inner.Handing.{counts_then, told_in, handing, judging, settling, settling_as}

pub sizes_counted : (p : Problem) (n d : ℕ) → n ≡ components (constraint_rows p.constraints.now p.given.constraints)
    → d ≡ length (disjunctions (constraint_rows p.constraints.now p.given.constraints))
    → record {
      exprs = p.given.exprs;
      constraints = p.given.constraints;
      overloads = p.given.overloads;
      sources = p.given.sources;
      components = n;
      disjunctions = d;
      default = p.given.default;
    }
    ≡ sizes_of (call_for p)
unfolding sizes_of
sizes_counted p n d a b =
    λ i. record {
      exprs = p.given.exprs;
      constraints = p.given.constraints;
      overloads = p.given.overloads;
      sources = p.given.sources;
      components = a i;
      disjunctions = b i;
      default = p.given.default;
    }

-- the incumbent of the scratch, and the outputs
module _ (sc ls : List ℕ) (names : List BaseName) (z : Sizes) (ts ms hs : List ℕ) (h : Handable sc ls z ts ms hs) where
  many_components : z.components ≡ length (part best_measure_at z.components sc)
  many_components = sym (length_part best_measure_at z.components sc (omega (arith, h.used, h.sized.few_components)))

  many_choices : z.disjunctions ≡ length (choices_kept ls z sc)
  many_choices = sym (choices_as_counted sc ls z h.sized h.used)

  pub hands_out : (k c : Counts) → k ≡ c → (ts' ms' hs' : List ℕ)
      → ts' ≡ written_over (typing_rows (problem_in ls z) names (choices_kept ls z sc) 0 (part best_sorts_at z.exprs sc)) ts
      → ms' ≡ written_over (part best_measure_at z.components sc) ms
      → hs' ≡ written_over (choice_rows (rising (problem_in ls z) (choices_kept ls z sc))) hs
      → answered (Ok (Typing (record { counts = k; components = z.components; choices = z.disjunctions }))) ts' ms' hs' ≡
      handed_out (problem_in ls z) names ts ms hs c (candidate_of ls z sc false)
  unfolding handed_out candidate_of
  hands_out k c q ts' ms' hs' a b e =
      λ i. record {
        answer = Ok (Typing (record { counts = q i; components = many_components i; choices = many_choices i }));
        typing = a i;
        measure = b i;
        choices = e i;
      }

-- by whether there is an incumbent, and whether it is tied
module _ (s : Search) (names : List BaseName) (h : Handout) (k : Counts) (e : k ≡ counts_then s) where
  pub no_incumbent : s.best ≡ None → told_in (Ok (NoTyping k)) h ≡ judging s names h
  unfolding best_of
  no_incumbent b = rw b (ap (λ k. told_in (Ok (NoTyping k)) h) e)

  pub tied : (i : Incumbent) → s.best ≡ Some i → i.tied ≡ true → told_in (Ok (Ambiguous k)) h ≡ judging s names h
  unfolding best_of candidate_of
  tied i b t = rw (b, t) (ap (λ k. told_in (Ok (Ambiguous k)) h) e)

  pub not_tied : (i : Incumbent) → s.best ≡ Some i → i.tied ≡ false → (a : Answered) → a ≡ handing s names h → a ≡ judging s names h
  unfolding best_of candidate_of handed_out
  not_tied i b t a q = q ∙ rw (b, t) refl

-- by the answer of the search, with what ended told in any way
module _ {E : Type 0} (told : E → Refusal) (s : Search) (names : List BaseName) (h : Handout) (k : Lengths) (r : Result Bool E) where
  pub room_ended : (e : E) → r ≡ Err e → (us : List ℕ) → us ≡ given_back k.sorts k.entries s.sorts.now
      → settled us (told_in (Err (told e)) h) ≡ settling_as told s names h k r
  room_ended e q us g = (λ i. settled (g i) (told_in (Err (told e)) h)) ∙ sym (ap (settling_as told s names h k) q)

-- what ended, told as the refusal that it is
module _ (s : Search) (names : List BaseName) (h : Handout) (k : Lengths) where
  refused_so : (full : Full) → refusal_of full ≡ room_refusal (code_of full)
  unfolding room_refusal
  refused_so Sorts = refl
  refused_so Nodes = refl

  pub told_as_refusal : (r : Result Bool Full) → settling_as refusal_of s names h k r ≡ settling s names h k r
  told_as_refusal (Ok found) = refl
  told_as_refusal (Err full) =
      ap (λ c. settled (given_back k.sorts k.entries s.sorts.now) (told_in (Err c) h)) (refused_so full)
