-- A child that went from one of two lists to the other: they have the same children between them, in order.
use mathlib.Core.Path.{◌≡◌, refl, ap, ◌∙◌}
use mathlib.Core.List.{List, [], ◌∷◌, ◌++◌}
use Prim.Native.Nat.{ℕ, ◌+◌, ◌-◌, ◌<◌}
use native.Mathlib.Omega.{arith}
use lib.ListN.{length, take, drop, get_or, length-append, length-drop}
use lib.Seq.{length-take-le}
use Rattle.plain.specs.Outcome.{Outcome.value}
use Rattle.pool.specs.declared.Kid.{Kid}
use Rattle.pool.specs.Slot.{no_kid}
use Rattle.node_children.specs.declared.NodeChildren.{NodeChildren}
use Rattle.node_children.specs.declared.Two.{Two}
use Rattle.node_children.specs.Kids.{kids, list_of, Parting}
use Rattle.node_children.specs.Calls.{with_kid}
use Rattle.node_children.proofs.Lists.{clean-length, holds}
use Rattle.node_children.proofs.Halves.{Joined, to-right, to-left}
use Rattle.child_split.specs.Moves.{last_out, last_in, first_out, first_in}

length-of : (c : NodeChildren) (ks : List Kid) → c ≡ list_of ks → c.len ≡ length ks
unfolding list_of
length-of c ks e = ap (λ (l : NodeChildren). l.len) e

module _ (a b : NodeChildren) (n : ℕ) (l : List Kid) (j : Joined a b n l) (r : Two) where
  u : length (kids a) ≡ a.len
  u = clean-length a j.left-clean

  v : length (kids b) ≡ b.len
  v = clean-length b j.right-clean

  pub moved-right : 0 < a.len → b.len < 16 → Parting (value (last_out a, last_in a b)) a b r → Joined r.left r.right n l × (r.right.len ≡ b.len + 1)
  moved-right p q w =
      let k = get_or (kids a) (a.len - 1) no_kid in
      let ks = take (a.len - 1) (kids a) in
      let x : r.left.len ≡ a.len - 1 = length-of r.left ks w.left-list ∙ length-take-le (a.len - 1) (kids a) (omega (arith, u)) in
      let y : r.right.len ≡ b.len + 1 = length-of r.right (with_kid 0 k (kids b)) w.right-list ∙ omega (arith, v) in
      (to-right a b r.left r.right n l k j p q refl (holds r.left (a.len - 1) ks x w.left-list) (holds r.right (b.len + 1) (with_kid 0 k (kids b)) y w.right-list), y)

  pub moved-left : 0 < b.len → a.len < 16 → Parting (value (first_in a b, first_out b)) a b r → Joined r.left r.right n l × (r.right.len ≡ b.len - 1)
  moved-left p q w =
      let k = get_or (kids b) 0 no_kid in
      let ks = kids a ++ (k ∷ []) in
      let x : r.left.len ≡ a.len + 1 = length-of r.left ks w.left-list ∙ omega (arith, length-append (kids a) (k ∷ []), u) in
      let y : r.right.len ≡ b.len - 1 = length-of r.right (drop 1 (kids b)) w.right-list ∙ omega (arith, length-drop 1 (kids b), v) in
      (to-left a b r.left r.right n l k j p q refl (holds r.left (a.len + 1) ks x w.left-list) (holds r.right (b.len - 1) (drop 1 (kids b)) y w.right-list), y)
