-- The leaves that the search met, by a search that keeps the measures of all. The incumbent is the least of them, met more than once exactly if it
-- is marked; there is none exactly if no leaf was met; and a branch is found exactly if a leaf was met on it. Each leaf keeps this, so the search
-- does. Hence the verdict of a call that passes its checks and has room is by its leaves: 17, 18 or 0. Assumes nothing.
use mathlib.Core.Path.{◌≡◌, refl, sym, ap, ap₂, subst, ◌∙◌}
use mathlib.Core.Bool.{Bool, true, false, ◌||◌, or_comm}
use mathlib.Core.List.{List, [], ◌∷◌, ◌++◌, append_assoc}
use mathlib.Core.Option.{Option, none, some}
use mathlib.Core.Logic.{inl, inr}
use Prim.Native.Nat.{◌+◌, ◌<◌}
use native.Mathlib.Omega.{arith}
use lib.Dec.{ltb}
use lib.ListN.{length}
use borrow.Author.Tests.{ltb-true, ltb-false, lt-ltb}
use Rattle.std.specs.Prelude.{Ok}
use Rattle.resolved_sort.specs.Checks.{first_failing, code_of as code_of_refusal}
use Rattle.unification.specs.Making.{Lent}
use Rattle.inference.specs.declared.Constraint.{Constraint}
use Rattle.inference.specs.Constraints.{Problem}
use Rattle.inference.specs.Measure.{Components, smaller, equal, greater, compare, AtMost}
use Rattle.inference.specs.Search.{Path, Candidate, World, Out, found, missed, ended, lending, keeping, marked_tied, leaf, solve}
use Rattle.inference.specs.Typing.{All, none_left, and_all, In, here, there}
use Rattle.inference.specs.SolveChecks.{Call, given, solve_checks}
use Rattle.inference.specs.SolveEntry.{problem_of, start_path, lent_of, written_over, counts_in, judged_by, judged, room_refusal, verdict}
use Rattle.inference.specs.SolveEntry.{solve_entry, code_solved}
use Rattle.inference.proofs.Accepted.{passed_is_searched}
use Rattle.inference.proofs.Members.{not_in_nothing, in_all, all_weaker}
use Rattle.inference.proofs.Measures.{compare_self, equal_are_one, smaller_is_at_most, at_most_self}
use Rattle.inference.proofs.Measures.{smaller_below, at_most_each_other_are_one, greater_mirrored}
use Rattle.inference.specs.Leaves.{measure_met, history, once, times, Least, met_of, leaves_met, code_left, ByLeaves}
use Rattle.inference.proofs.Forgets.{history_has_the_verdict}
use Rattle.inference.proofs.Branches.{newcomer, Goes, leaf_goes, search_goes}

among_counted : (m : Components) (ms : List Components) → In m ms → 0 < times m ms
unfolding times
among_counted m _ (here ms) = rw (compare_self m) (omega arith)
among_counted m _ (there n ms i) = omega (arith, among_counted m ms i)

smaller_not_counted : (m : Components) (ms : List Components) → All (λ n. compare m n ≡ smaller) ms → times m ms ≡ 0
unfolding times
smaller_not_counted m _ none_left = refl
smaller_not_counted m _ (and_all n ms e a) = rw e (omega (arith, smaller_not_counted m ms a))

pub least_is_one : (m n : Components) (ms : List Components) → Least m ms → Least n ms → m ≡ n
least_is_one m n ms a b = at_most_each_other_are_one m n (in_all (AtMost m) n ms a.at_most b.among) (in_all (AtMost n) m ms b.at_most a.among)

-- an incumbent and the leaves met
pub record Stands (c : Candidate) (ms : List Components) : Type 0 where
  pub least : Least c.measure ms
  pub duplicate : c.duplicate ≡ ltb 1 (times c.measure ms)

unfoldable pub Kept : Option Candidate → List Components → Type 0
Kept none ms = ms ≡ []
Kept (some c) ms = Stands c ms

-- The first leaf, and then a smaller, an equal and a greater one.
module _ (c : Candidate) (ms : List Components) where
  new_stands : c.duplicate ≡ false → All (λ n. compare c.measure n ≡ smaller) ms → Stands c (c.measure ∷ ms)
  unfolding times
  new_stands d a =
      record {
        least =
            record {
              among = here ms;
              at_most = and_all c.measure ms (at_most_self c.measure) (all_weaker _ (AtMost c.measure) (smaller_is_at_most c.measure) ms a);
            };
        duplicate = d ∙ sym (rw (compare_self c.measure, smaller_not_counted c.measure ms a));
      }

  first_stands : c.duplicate ≡ false → ms ≡ [] → Stands c (c.measure ∷ ms)
  first_stands d e = new_stands d (subst (All (λ n. compare c.measure n ≡ smaller)) (sym e) none_left)

  smaller_stands : c.duplicate ≡ false → (b : Candidate) → compare c.measure b.measure ≡ smaller → Stands b ms → Stands c (c.measure ∷ ms)
  smaller_stands d b e s = new_stands d (all_weaker (AtMost b.measure) _ (λ n a. smaller_below c.measure b.measure n e a) ms s.least.at_most)

  equal_stands : (b : Candidate) → c.measure ≡ b.measure → c.duplicate ≡ true → (m : Components)
      → compare m b.measure ≡ equal → Stands b ms → Stands c (m ∷ ms)
  unfolding times
  equal_stands b i d m e s =
      let j : m ≡ c.measure = equal_are_one m b.measure e ∙ sym i in
      let l : Least c.measure ms = subst (λ n. Least n ms) (sym i) s.least in
      record {
        least = record { among = there m ms l.among; at_most = and_all m ms (subst (AtMost c.measure) (sym j) (at_most_self c.measure)) l.at_most };
        duplicate =
            d
            ∙ sym
            (subst (λ n. ltb 1 (once (compare c.measure n) + times c.measure ms) ≡ true) (sym j)
            (rw (compare_self c.measure) (lt-ltb 1 (1 + times c.measure ms) (omega (arith, among_counted c.measure ms l.among)))));
      }

  greater_stands : (m : Components) → compare m c.measure ≡ greater → Stands c ms → Stands c (m ∷ ms)
  unfolding times
  greater_stands m e s =
      let g : compare c.measure m ≡ smaller = greater_mirrored m c.measure e in
      let t : times c.measure (m ∷ ms) ≡ times c.measure ms = rw g (omega arith) in
      record {
        least = record { among = there m ms s.least.among; at_most = and_all m ms (smaller_is_at_most c.measure m g) s.least.at_most };
        duplicate = s.duplicate ∙ ap (ltb 1) (sym t);
      }

-- whether there are leaves
abbrev pub any : List Components → Bool
any [] = false
any (m ∷ ms) = true

any_of_both : (ms ns : List Components) → any (ms ++ ns) ≡ (any ms || any ns)
any_of_both [] ns = refl
any_of_both (m ∷ ms) ns = refl

-- Where a branch went: the leaves met on it, last first, by which it is found or not; and the incumbent stands after it where it did before.
pub record Went (u : World (List Components)) (b : Bool) (v : World (List Components)) : Type 0 where
  pub leaves : List Components
  pub met : v.met ≡ leaves ++ u.met
  pub found : b ≡ any leaves
  pub kept : Kept u.best u.met → Kept v.best v.met

stays : (w : World (List Components)) (W : Lent) → Went w false (lending w W)
stays w W = record { leaves = []; met = refl; found = refl; kept = λ k. k }

after : (u v w : World (List Components)) (a b : Bool) → Went u a v → Went v b w → Went u (a || b) w
after u v w a b x y =
    record {
      leaves = y.leaves ++ x.leaves;
      met = y.met ∙ (ap (λ ms. y.leaves ++ ms) x.met ∙ sym (append_assoc y.leaves x.leaves u.met));
      found = ap₂ ◌||◌ x.found y.found ∙ (or_comm (any x.leaves) (any y.leaves) ∙ sym (any_of_both y.leaves x.leaves));
      kept = λ k. y.kept (x.kept k);
    }

module _ (P : Problem) where
  abbrev Met : Type 0
  Met = List Components

  -- one leaf more
  meets : (w : World Met) (W : Lent) (e : Path) (c : Candidate) → (Kept w.best w.met
      → Stands c (e.measure ∷ w.met)) → Went w true (keeping Met measure_met P (lending w W) e c)
  unfolding Kept
  meets w W e c h = record { leaves = e.measure ∷ []; met = refl; found = refl; kept = h }

  leaf_meets : (e : Path) (w : World Met) → Goes Went w (leaf Met measure_met P e w)
  unfolding Kept
  leaf_meets e w =
      leaf_goes Met measure_met P Went stays after e w
      (λ q ss W. meets w W e (newcomer e ss) (λ k. first_stands (newcomer e ss) w.met refl (subst (λ b. Kept b w.met) q k)))
      (λ c q i ss W. meets w W e (newcomer e ss) (λ k. smaller_stands (newcomer e ss) w.met refl c i (before c q k)))
      (λ c q i. meets w w.lent e (marked_tied Met measure_met P c) (λ k. equal_stands (marked_tied Met measure_met P c)
      w.met c refl refl e.measure i (before c q k)))
      (λ c q i. meets w w.lent e c (λ k. greater_stands c w.met e.measure i (before c q k)))
    where
      before : (c : Candidate) → w.best ≡ some c → Kept w.best w.met → Stands c w.met
      before c q k = subst (λ b. Kept b w.met) q k

  -- every branch of the search
  pub search_meets : (cs : List Constraint) (e : Path) (w : World Met) → Goes Went w (solve Met measure_met P cs e w)
  search_meets cs e = search_goes Met measure_met P Went stays after cs e (λ e' a. leaf_meets e')

module _ (I : Call) (W : Lent) (ms : List Components) where
  least_of_none : ms ≡ [] → (m : Components) → Least m ms → ⊥
  least_of_none e m l = not_in_nothing m (subst (In m) e l.among)

  none_judged : ms ≡ [] → ByLeaves I (judged I W none) ms
  unfolding code_solved
  none_judged e =
      record {
        none_met = (λ q. e, λ q. refl);
        least_met_often = (λ q. absurd (omega (arith, q)), λ x. absurd (least_of_none e x.0 x.1));
        least_met_once = (λ q. absurd (omega (arith, q)), λ x. absurd (least_of_none e x.0 x.1));
        least_handed_out = λ q m l. absurd (least_of_none e m l);
      }

  some_judged : (c : Candidate) → Stands c ms → (b : Bool) → c.duplicate ≡ b → ByLeaves I (judged_by I W c b) ms
  unfolding code_solved
  some_judged c s true d =
      let often : 1 < times c.measure ms = ltb-true 1 (times c.measure ms) (sym s.duplicate ∙ d) in
      record {
        none_met = (λ q. absurd (omega (arith, q)), λ e. absurd (least_of_none e c.measure s.least));
        least_met_often = (λ q. (c.measure, s.least, often), λ x. refl);
        least_met_once = (
          λ q. absurd (omega (arith, q)),
          λ x. absurd (omega (
            arith,
            often,
            x.2,
            ap (λ n. times n ms)
                (least_is_one x.0 c.measure ms x.1 s.least),
          )),
        );
        least_handed_out = λ q m l. absurd (omega (arith, q));
      }
  some_judged c s false d =
      let one : times c.measure ms ≡ 1 = omega (
        arith,
        ltb-false 1 (times c.measure ms) (sym s.duplicate ∙
            d),
        among_counted c.measure ms s.least.among,
      ) in
      record {
        none_met = (λ q. absurd (omega (arith, q)), λ e. absurd (least_of_none e c.measure s.least));
        least_met_often = (
          λ q. absurd (omega (arith, q)),
          λ x. absurd (omega (
            arith,
            one,
            x.2,
            ap (λ n. times n ms)
                (least_is_one x.0 c.measure ms x.1 s.least),
          )),
        );
        least_met_once = (λ q. (c.measure, s.least, one), λ x. refl);
        least_handed_out =
            λ q m l.
            let i : c.measure ≡ m = least_is_one c.measure m ms s.least l in
            record {
              outputs = record { counts = counts_in W; components = length c.measure; choices = length c.choices };
              answer = refl;
              count = ap length i;
              measure = ap (λ n. written_over n I.measure) i;
            };
      }

  judged_by_leaves : (b : Option Candidate) → Kept b ms → ByLeaves I (judged I W b) ms
  unfolding Kept
  judged_by_leaves none k = none_judged k
  judged_by_leaves (some c) k = some_judged c k c.duplicate refl

-- a search from no incumbent
searched_by_leaves : (I : Call) (w : World (List Components)) → Kept w.best w.met → (o : Out (List Components))
    → Goes Went w o → (code_left (verdict I o) ≡ 15 → ⊥) → (code_left (verdict I o) ≡ 16 → ⊥)
    → ByLeaves I (verdict I o) (met_of o)
unfolding Goes code_solved room_refusal code_of_refusal
searched_by_leaves I w k (found v) x f s = judged_by_leaves I v.lent v.met v.best (x.kept k)
searched_by_leaves I w k (missed v) x f s = judged_by_leaves I v.lent v.met v.best (x.kept k)
searched_by_leaves I w k (ended c W) (inl i) f s = absurd (f (ap (λ n. code_of_refusal (room_refusal n)) i))
searched_by_leaves I w k (ended c W) (inr i) f s = absurd (s (ap (λ n. code_of_refusal (room_refusal n)) i))

pub verdict_by_leaves : (I : Call) → first_failing (solve_checks I) ≡ Ok tt → (code_left (solve_entry I) ≡ 15 → ⊥)
    → (code_left (solve_entry I) ≡ 16 → ⊥) → ByLeaves I (solve_entry I) (leaves_met I)
unfolding Kept
verdict_by_leaves I e f s =
    let i = passed_is_searched I e ∙ sym (history_has_the_verdict I) in
    subst (λ left. ByLeaves I left (leaves_met I)) (sym i)
    (searched_by_leaves I (record { lent = lent_of I; best = none; met = [] }) refl (history I)
    (search_meets (problem_of I) (given I) (start_path I) (record { lent = lent_of I; best = none; met = [] }))
    (λ q. f (ap code_left i ∙ q)) (λ q. s (ap code_left i ∙ q)))
