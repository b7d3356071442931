-- What the lists hold that an accepted call answers.
use mathlib.Core.Path.{◌≡◌, ap, ◌∙◌}
use mathlib.Core.List.{List, [], ◌∷◌, ◌++◌}
use Prim.Native.Nat.{ℕ, ◌+◌, ◌-◌, ◌≤◌, ◌<◌}
use native.Mathlib.Omega.{arith}
use lib.ListN.{length, take, drop, get_or, length-append, length-drop}
use lib.Seq.{length-take-le}
use Rattle.plain.specs.Outcome.{Outcome, kept, mapped}
use Rattle.pool.specs.declared.Kid.{Kid}
use Rattle.pool.specs.Slot.{no_kid}
use Rattle.node_children.specs.declared.NodeChildren.{NodeChildren}
use Rattle.node_children.specs.declared.Listed.{Listed}
use Rattle.node_children.specs.declared.Taken.{Taken}
use Rattle.node_children.specs.declared.Two.{Two}
use Rattle.node_children.specs.Kids.{kids, list_of, kid_of, Holds, Listing, Taking, Parting}
use Rattle.node_children.specs.Calls.{with_kid, pushed, popped, inserted, removed, split_off}
use Rattle.node_children.proofs.Lists.{holds}
use Rattle.node_children.proofs.Rules.{pushed-done, popped-done, inserted-done, removed-done, split_done}

made : (c : NodeChildren) (n : ℕ) (ks : List Kid) → c ≡ list_of ks → length ks ≡ n → Holds c n ks
unfolding list_of
made c n ks e f = holds c n ks (ap (λ (l : NodeChildren). l.len) e ∙ f) e

module _ (c : NodeChildren) (w : length (kids c) ≡ c.len) where
  pub pushed-holds : (k : Kid) (r : Listed) → c.len < 16 → Listing (pushed c k) c r → Holds r.list (c.len + 1) (kids c ++ (k ∷ []))
  pushed-holds k r h p = made r.list (c.len + 1) (kids c ++ (k ∷ [])) (p.list ∙ ap (kept c) (pushed-done c k h)) (omega (arith, length-append (kids c) (k ∷ [])))

  pub inserted-holds : (i : ℕ) (k : Kid) (r : Listed) → i ≤ c.len → c.len < 16 → Listing (inserted c i k) c r → Holds r.list (c.len + 1) (with_kid i k (kids c))
  inserted-holds i k r g h p =
      made r.list (c.len + 1) (with_kid i k (kids c)) (p.list ∙ ap (kept c) (inserted-done c i k g h))
      (omega (arith, length-append (take i (kids c)) (k ∷ drop i (kids c)), length-take-le i (kids c) (omega arith), length-drop i (kids c)))

  module _ (h : c.len ≤ 16) where
    module _ (r : Taken) (some : 0 < c.len) where
      pub popped-holds : Taking (popped c) c r → Holds r.list (c.len - 1) (take (c.len - 1) (kids c))
      popped-holds p =
          made r.list (c.len - 1) (take (c.len - 1) (kids c)) (p.list ∙ ap (λ (o : Outcome (Kid × NodeChildren)). kept c (mapped (λ t. t.1) o)) (popped-done c some h))
          (length-take-le (c.len - 1) (kids c) (omega arith))

      pub popped-kid : Taking (popped c) c r → r.kid ≡ get_or (kids c) (c.len - 1) no_kid
      popped-kid p = p.kid ∙ ap (λ (o : Outcome (Kid × NodeChildren)). kid_of (mapped (λ t. t.0) o)) (popped-done c some h)

      -- the first child taken out
      pub first_holds : Taking (removed c 0) c r → Holds r.list (c.len - 1) (drop 1 (kids c))
      first_holds p =
          made r.list (c.len - 1) (drop 1 (kids c)) (p.list ∙ ap (λ (o : Outcome (Kid × NodeChildren)). kept c (mapped (λ t. t.1) o)) (removed-done c 0 some some h))
          (omega (arith, length-drop 1 (kids c)))

      pub first-kid : Taking (removed c 0) c r → r.kid ≡ get_or (kids c) 0 no_kid
      first-kid p = p.kid ∙ ap (λ (o : Outcome (Kid × NodeChildren)). kid_of (mapped (λ t. t.0) o)) (removed-done c 0 some some h)

    module _ (i : ℕ) (r : Two) (g : i ≤ c.len) (p : Parting (split_off c i) c (list_of []) r) where
      pub left-holds : Holds r.left i (take i (kids c))
      left-holds =
          made r.left i (take i (kids c)) (p.left-list ∙ ap (λ (o : Outcome (NodeChildren × NodeChildren)). kept c (mapped (λ t. t.0) o)) (split_done c i g h))
          (length-take-le i (kids c) (omega arith))

      pub right-holds : Holds r.right (c.len - i) (drop i (kids c))
      right-holds =
          made r.right (c.len - i) (drop i (kids c)) (p.right-list ∙ ap (λ (o : Outcome (NodeChildren × NodeChildren)). kept (list_of []) (mapped (λ t. t.1) o)) (split_done c i g h))
          (omega (arith, length-drop i (kids c)))
