-- Each way of unify: the equation of the definition at the ends of both sides, with what the code has found there. Assumes nothing.
use mathlib.Core.Path.{◌≡◌, refl, ap, ap₂, sym, ◌∙◌, subst}
use mathlib.Core.List.{List, ◌∷◌}
use mathlib.Core.Option.{some}
use mathlib.Core.Bool.{Bool, true, false}
use mathlib.Core.Logic.{◌⊎◌, inl, inr}
use Prim.Native.Nat.{ℕ, ◌+◌, ◌*◌, ◌<◌, ◌≤◌}
use native.Mathlib.Omega.{arith}
use native.Mathlib.Nat.{mul-le-mul_right}
use native.Mathlib.Numerals.{add-one}
use lib.ListN.{length, get_or, drop, drop_of_length-le}
use lib.Seq.{drop-cons}
use lib.Dec.{eqb}
use borrow.Author.Tests.{eq-eqb, ne_eqb}
use Rattle.resolved_sort.proofs.Reached.{no_confusion}
use Rattle.unification.specs.declared.Lengths.{Lengths}
use Rattle.unification.specs.declared.SortVar.{SortVar}
use Rattle.std.specs.Prelude.{Some, None}
use Rattle.unification.specs.Term.{Head, Shape, variable, over, same_head}
use Rattle.unification.specs.Inner.Term.{head_of, parts_of}
use Rattle.unification.specs.Nodes.{Binds, binds_of}
use Rattle.unification.specs.Unify.{Unifies, yes_with, no_way, too_deep, and_then, follow, occurs, bind_unless}
use Rattle.unification.specs.Unify.{unify_all, unify_heads, unify_variables, unify_shapes, unify_ends}
use Rattle.unification.specs.Unify.{unify_followed, unify, deep, deeper}
use Rattle.unification.specs.Acyclic.{One}
use Rattle.unification.specs.Checked.{graph_of, Ready, Placed}
use Rattle.unification.specs.Trail.{frees, UnifyLeaves}
use Rattle.unification.proofs.Rank.{rank, rank_over, one_highest}
use Rattle.unification.proofs.Parts.{one_at}
use Rattle.unification.proofs.Follow.{follow_end}
use Rattle.unification.proofs.Enough.{end_no_higher}
use Rattle.unification.proofs.Lists.{lower, scoped, part_is_place}
use Rattle.unification.specs.Exact.{YesLeaves, BindsKept}
use Rattle.unification.proofs.Robinson.{unify_kept}
use Rattle.unification.proofs.Equations.{unify_eq}
use Rattle.unification.proofs.Theorem.{deep_enough, deeper_enough, ready_ranked}
use Rattle.infer_nodes.specs.Inner.Parts.{var_at}
use Rattle.infer_nodes.proofs.Ways.{is_variable, is_solid, end_is_placed}
use Rattle.infer_nodes.proofs.Parts.{same_count}
use Rattle.unifier.specs.Inner.Trying.{Trying, Free, Solid, VariableAt}
use Rattle.unifier.proofs.Tries.{tries_as, binds_nothing, no_try, then_no, then_on, trying_on}

-- two places of as many parts
pub record Alike (ws ns : List ℕ) (k : Lengths) (l r n : ℕ) : Type 0 where
  pub left : Placed k l
  pub right : Placed k r
  pub many : n ≡ length (parts_of (graph_of ws ns k l))
  pub as_many : n ≡ length (parts_of (graph_of ws ns k r))

-- what a try at a place may take: free variables first, then the rank
abbrev pub work_of : List ℕ → List ℕ → List ℕ → Lengths → ℕ → ℕ
work_of ws ns bs k p = frees (binds_of bs k.variables) * deep + rank (graph_of ws ns k) deep (binds_of bs k.variables) p

-- of a try of U, the parts before the i-th of two places are unified: what the parts from there on come to is what U comes to
pub record Unifying (ws ns : List ℕ) (k : Lengths) (l r n : ℕ) (U : Unifies) (bs₀ ts₀ : List ℕ) (c₀ : ℕ) (bs ts : List ℕ) (c i : ℕ) : Type 0 where
  pub trying : Trying ws ns bs ts k c
  pub alike : Alike ws ns k l r n
  pub rest : (bs₁ ts₁ : List ℕ) (d : ℕ) (w : Bool) → UnifyLeaves ws ns k (unify_all (graph_of ws ns k) (unify (graph_of ws ns k))
      (binds_of bs k.variables) (drop i (parts_of (graph_of ws ns k l))) (drop i (parts_of (graph_of ws ns k r)))) bs ts
      c bs₁ ts₁ d w → UnifyLeaves ws ns k U bs₀ ts₀ c₀ bs₁ ts₁ d w
  pub work : work_of ws ns bs k l ≤ work_of ws ns bs₀ k l
  pub same_binds : length bs ≡ length bs₀
  pub same_trail : length ts ≡ length ts₀

module _ (ws ns bs ts : List ℕ) (k : Lengths) (c : ℕ) (t : Trying ws ns bs ts k c) where
  abbrev shape : ℕ → Shape
  shape = graph_of ws ns k

  abbrev B : Binds
  B = binds_of bs k.variables

  abbrev q : Ready ws ns bs k
  q = t.ready

  unify_step : (l r : ℕ) → unify shape B l r ≡ unify_followed shape deep (unify shape) B (follow shape deep B l) (follow shape deep B r)
  unfolding unify
  unify_step l r =
      unify_eq shape 3072 (lower ws k.sorts k.entries ns k.nodes k.arguments k.variables q.nodes) k.variables
      (scoped ws k.sorts k.entries ns k.nodes k.arguments k.variables q.nodes) deep
      (deep_enough ws k.sorts k.entries ns k.nodes k.arguments k.variables q.nodes)
      deeper (deeper_enough ws k.sorts k.entries ns k.nodes k.arguments k.variables q.nodes) B l r q.binds.many q.binds.numbered

  module _ (l r l' r' : ℕ) (pl : Placed k l) (pr : Placed k r) (fl : follow shape deep B l ≡ some l') (fr : follow shape deep B r ≡ some r') where
    at_ends : unify shape B l r ≡ unify_ends shape (eqb l' r') deep (unify shape) B l' r'
    at_ends = unify_step l r ∙ rw (fl, fr)

    pub same_end : l' ≡ r' → UnifyLeaves ws ns k (unify shape B l r) bs ts c bs ts c true
    same_end e = tries_as ws ns k (yes_with B) (unify shape B l r) bs ts c bs ts c true (sym (at_ends ∙ rw (eq-eqb l' r' e))) (binds_nothing ws ns k bs ts c q)

    pub left_end_placed : Placed k l'
    left_end_placed = end_is_placed ws ns bs k q l l' pl fl

    pub right_end_placed : Placed k r'
    right_end_placed = end_is_placed ws ns bs k q r r' pr fr

    pub left_end_rank : rank shape deep B l' ≤ rank shape deep B l
    left_end_rank = end_no_higher shape deep B (ready_ranked ws ns bs k q) deep l l' fl

    module _ (d : l' ≡ r' → ⊥) where
      by_shapes : unify shape B l r ≡ unify_shapes shape deep (unify shape) B l' (shape l') r' (shape r')
      by_shapes = at_ends ∙ rw (ne_eqb l' r' d)

      left_free : (v : SortVar) → Some v ≡ var_at (shape l') → Free bs k v.0
      left_free v x = let s = is_variable (shape l') v x in record {
        listed = scoped ws k.sorts k.entries ns
            k.nodes k.arguments k.variables q.nodes l' v.0 s;
        free = follow_end shape B deep l l' v.0
            fl s;
      }

      right_free : (u : SortVar) → Some u ≡ var_at (shape r') → Free bs k u.0
      right_free u x = let s = is_variable (shape r') u x in record {
        listed = scoped ws k.sorts k.entries ns
            k.nodes k.arguments k.variables q.nodes r' u.0 s;
        free = follow_end shape B deep r r' u.0
            fr s;
      }

      module _ (v : SortVar) (xv : Some v ≡ var_at (shape l')) where
        module _ (u : SortVar) (xu : Some u ≡ var_at (shape r')) where
          pub two_variables : Trying ws ns bs ts k c × Free bs k v.0 × Free bs k u.0 × Placed k r' × VariableAt ws ns k r' u.0
          two_variables = (t, left_free v xv, right_free u xu, right_end_placed, record { stands = is_variable (shape r') u xu })

          pub variables_tried : (bs₁ ts₁ : List ℕ) (d : ℕ) (a : Bool)
              → UnifyLeaves ws ns k (unify_variables shape (eqb v.0 u.0) B v.0 r') bs ts c bs₁ ts₁ d a
              → UnifyLeaves ws ns k (unify shape B l r) bs ts c bs₁ ts₁ d a
          variables_tried bs₁ ts₁ d a = tries_as ws ns k _ _ bs ts c bs₁ ts₁ d a
              (sym (by_shapes ∙ rw (is_variable (shape l') v xv, is_variable (shape r') u xu)))

        module _ (xr : None ≡ var_at (shape r')) where
          pub left_variable : Trying ws ns bs ts k c × Free bs k v.0 × Placed k r'
          left_variable = (t, left_free v xv, right_end_placed)

          pub left_tried : (bs₁ ts₁ : List ℕ) (d : ℕ) (a : Bool)
              → UnifyLeaves ws ns k (bind_unless shape (occurs shape deep B v.0 r') B v.0 r') bs ts c bs₁ ts₁ d a
              → UnifyLeaves ws ns k (unify shape B l r) bs ts c bs₁ ts₁ d a
          left_tried bs₁ ts₁ d a = tries_as ws ns k _ _ bs ts c bs₁ ts₁ d a
              (sym (by_shapes ∙ rw (is_variable (shape l') v xv) (rw (is_solid (shape r') xr))))

      module _ (xl : None ≡ var_at (shape l')) where
        module _ (u : SortVar) (xu : Some u ≡ var_at (shape r')) where
          pub right_variable : Trying ws ns bs ts k c × Free bs k u.0 × Placed k l'
          right_variable = (t, right_free u xu, left_end_placed)

          pub right_tried : (bs₁ ts₁ : List ℕ) (d : ℕ) (a : Bool)
              → UnifyLeaves ws ns k (bind_unless shape (occurs shape deep B u.0 l') B u.0 l') bs ts c bs₁ ts₁ d a
              → UnifyLeaves ws ns k (unify shape B l r) bs ts c bs₁ ts₁ d a
          right_tried bs₁ ts₁ d a = tries_as ws ns k _ _ bs ts c bs₁ ts₁ d a
              (sym (by_shapes ∙ rw (is_variable (shape r') u xu) (rw (is_solid (shape l') xl))))

        module _ (xr : None ≡ var_at (shape r')) where
          pub left_solid : Solid ws ns k l'
          left_solid = record { placed = left_end_placed; solid = is_solid (shape l') xl }

          pub right_solid : Solid ws ns k r'
          right_solid = record { placed = right_end_placed; solid = is_solid (shape r') xr }

          pub parts_tried : (bs₁ ts₁ : List ℕ) (d : ℕ) (a : Bool)
              → UnifyLeaves ws ns k (unify_shapes shape deep (unify shape) B l' (shape l') r' (shape r')) bs ts c bs₁
              ts₁ d a → UnifyLeaves ws ns k (unify shape B l r) bs ts c bs₁ ts₁ d a
          parts_tried bs₁ ts₁ d a = tries_as ws ns k _ _ bs ts c bs₁ ts₁ d a (sym by_shapes)

  -- two ends at which no variable stands
  module _ (l r : ℕ) (sl : Solid ws ns k l) (sr : Solid ws ns k r) where
    abbrev whole : Unifies
    whole = unify_shapes shape deep (unify shape) B l (shape l) r (shape r)

    by_heads : whole ≡ unify_heads shape (same_head (head_of (shape l)) (head_of (shape r))) (unify shape) B (parts_of (shape l)) (parts_of (shape r))
    by_heads = ap₂ (λ (y z : Shape). unify_shapes shape deep (unify shape) B l y r z) sl.solid sr.solid

    module _ (h : Bool) (eh : h ≡ same_head (head_of (shape l)) (head_of (shape r))) where
      pub other_heads : h ≡ false → UnifyLeaves ws ns k whole bs ts c bs ts c false
      other_heads y =
          tries_as ws ns k no_way whole bs ts c bs ts c false
          (sym (by_heads ∙ ap (λ z. unify_heads shape z (unify shape) B (parts_of (shape l)) (parts_of (shape r))) (sym eh ∙ y))) (no_try ws ns k bs ts c q)

      module _ (y : h ≡ true) where
        same_heads : whole ≡ unify_all shape (unify shape) B (parts_of (shape l)) (parts_of (shape r))
        same_heads = by_heads ∙ ap (λ z. unify_heads shape z (unify shape) B (parts_of (shape l)) (parts_of (shape r))) (sym eh ∙ y)

        pub parts_begin : (n : ℕ) → n ≡ length (parts_of (shape l)) → Unifying ws ns k l r n whole bs ts c bs ts c 0
        parts_begin n en =
            record {
              trying = t;
              alike = record {
                left = sl.placed;
                right = sr.placed;
                many = en;
                as_many = en ∙ same_count ws ns k
                    q.nodes l r sl.placed sr.placed (sym eh ∙ y);
              };
              rest = λ bs₁ ts₁ d w. tries_as ws ns k _ _ bs ts c bs₁ ts₁ d w (sym same_heads);
              work = omega arith;
              same_binds = refl;
              same_trail = refl;
            }

  -- parts are places of lower rank
  part_placed : (p x : ℕ) (h : Head) (ps : List ℕ) → Placed k p → shape p ≡ over h ps → One x ps → Placed k x
  part_placed = part_is_place ws k.sorts k.entries ns k.nodes k.arguments k.variables q.nodes

  by_parts : (s : Shape) (i : ℕ) → i < length (parts_of s) → s ≡ over (head_of s) (parts_of s)
  by_parts (variable v) i l = absurd (omega (arith, l))
  by_parts (over h ps) i l = refl

  -- the parts of two sorts, of which those before the i-th are unified
  module _ (l r n : ℕ) (U : Unifies) (bs₀ ts₀ : List ℕ) (c₀ i : ℕ) (g : Unifying ws ns k l r n U bs₀ ts₀ c₀ bs ts c i) where
    abbrev ps : List ℕ
    ps = parts_of (shape l)

    abbrev qs : List ℕ
    qs = parts_of (shape r)

    abbrev rest : Unifies
    rest = unify_all shape (unify shape) B (drop i ps) (drop i qs)

    pub all_parts : n ≤ i → UnifyLeaves ws ns k U bs₀ ts₀ c₀ bs ts c true
    all_parts e =
        g.rest bs ts c true
        (tries_as ws ns k (yes_with B) rest bs ts c bs ts c true
        (sym (ap₂ (λ (xs ys : List ℕ). unify_all shape (unify shape) B xs ys) (drop_of_length-le ps {i = i}
        (omega (arith, e, g.alike.many))) (drop_of_length-le qs {i = i} (omega (arith, e, g.alike.as_many)))))
        (binds_nothing ws ns k bs ts c q))

    module _ (d : i < n) where
      left_inside : i < length ps
      left_inside = omega (arith, g.alike.many, d)

      right_inside : i < length qs
      right_inside = omega (arith, g.alike.as_many, d)

      module _ (x y : ℕ) (read_x : i < length ps → x ≡ get_or ps i 0) (read_y : i < length qs → y ≡ get_or qs i 0) where
        ex : x ≡ get_or ps i 0
        ex = read_x left_inside

        ey : y ≡ get_or qs i 0
        ey = read_y right_inside

        abbrev one_x : One x ps
        one_x = subst (λ (z : ℕ). One z ps) (sym ex) (one_at ps i left_inside)

        pub left_placed : Placed k x
        left_placed = part_placed l x (head_of (shape l)) ps g.alike.left (by_parts (shape l) i left_inside) one_x

        pub right_placed : Placed k y
        right_placed = part_placed r y (head_of (shape r)) qs g.alike.right (by_parts (shape r) i right_inside)
            (subst (λ (z : ℕ). One z qs) (sym ey) (one_at qs i right_inside))

        pub part_lower : work_of ws ns bs k x < work_of ws ns bs₀ k l
        part_lower =
            omega (
              arith,
              g.work,
              rank_over shape deep B (ready_ranked ws ns bs k q) l (head_of (shape l)) ps
                  (by_parts (shape l) i left_inside),
              one_highest (rank shape deep B) ps x one_x,
            )

        others : Binds → Unifies
        others C = unify_all shape (unify shape) C (drop (i + 1) ps) (drop (i + 1) qs)

        parts_split : and_then (unify shape B x y) others ≡ rest
        unfolding others
        parts_split =
            sym
            (ap₂ (λ (xs ys : List ℕ). unify_all shape (unify shape) B xs ys)
            (drop-cons ps i 0 left_inside ∙ ap₂ (λ (z j : ℕ). z ∷ drop j ps) (sym ex) (sym (add-one i)))
            (drop-cons qs i 0 right_inside ∙ ap₂ (λ (z j : ℕ). z ∷ drop j qs) (sym ey) (sym (add-one i))))

        module _ (bs₁ ts₁ : List ℕ) where
          pub part_fails : (m : ℕ) (z : Bool) → z ≡ false → UnifyLeaves ws ns k (unify shape B x y) bs ts c bs₁ ts₁ m z
              → UnifyLeaves ws ns k U bs₀ ts₀ c₀ bs₁ ts₁ m false
          part_fails m z e u =
              g.rest bs₁ ts₁ m false
              (tries_as ws ns k _ _ bs ts c bs₁ ts₁ m false parts_split
              (then_no ws ns k (unify shape B x y) others bs ts c bs₁ ts₁ m (subst (UnifyLeaves ws ns k (unify shape B x y) bs ts c bs₁ ts₁ m) e u)))

          module _ (m : ℕ) (z : Bool) (e : z ≡ true) (u : UnifyLeaves ws ns k (unify shape B x y) bs ts c bs₁ ts₁ m z) where
            abbrev yes_tried : UnifyLeaves ws ns k (unify shape B x y) bs ts c bs₁ ts₁ m true
            yes_tried = subst (UnifyLeaves ws ns k (unify shape B x y) bs ts c bs₁ ts₁ m) e u

            next_by : (X : Unifies) → BindsKept shape k.variables B X → X ≡ yes_with (binds_of bs₁ k.variables)
                → YesLeaves shape k.variables B (binds_of bs₁ k.variables)
            next_by (yes_with C) n' s = let w : C ≡ binds_of bs₁ k.variables = cc in subst (YesLeaves shape k.variables B) w n'
            next_by no_way n' s = no_confusion (cc)
            next_by too_deep n' s = no_confusion (cc)

            next : YesLeaves shape k.variables B (binds_of bs₁ k.variables)
            unfolding unify
            next =
                next_by (unify shape B x y)
                (unify_kept shape 3072 (lower ws k.sorts k.entries ns k.nodes k.arguments k.variables q.nodes) k.variables
                (scoped ws k.sorts k.entries ns k.nodes k.arguments k.variables q.nodes) deep
                (deep_enough ws k.sorts k.entries ns k.nodes k.arguments k.variables q.nodes) deeper
                B x y q.binds.many q.binds.numbered)
                yes_tried.says

            -- fewer variables are free, or the bindings are as before
            work_falls : work_of ws ns bs₁ k l ≤ work_of ws ns bs k l
            work_falls = go next.fewer
              where
                go : (binds_of bs₁ k.variables ≡ B) ⊎ (frees (binds_of bs₁ k.variables) < frees B) → work_of ws ns bs₁ k l ≤ work_of ws ns bs k l
                go (inl j) = rw j (omega arith)
                go (inr j) =
                    let s = (ready_ranked ws ns bs₁ k yes_tried.ready).short l in
                    omega (arith, s, mul-le-mul_right deep j)

            pub parts_go_on : length bs₁ ≡ length bs → length ts₁ ≡ length ts → Unifying ws ns k l r n U bs₀ ts₀ c₀ bs₁ ts₁ m (i + 1)
            unfolding others
            parts_go_on lb lt =
                record {
                  trying = trying_on ws ns k (unify shape B x y) bs ts c bs₁ ts₁ m t lt yes_tried;
                  alike = g.alike;
                  rest = λ bs₂ ts₂ d w s. g.rest bs₂ ts₂ d w (tries_as ws ns k _ _ bs ts c bs₂ ts₂ d w parts_split
                      (then_on ws ns k (unify shape B x y) others bs ts c bs₁ ts₁ m yes_tried bs₂ ts₂ d w s));
                  work = omega (arith, g.work, work_falls);
                  same_binds = lb ∙ g.same_binds;
                  same_trail = lt ∙ g.same_trail;
                }
