-- The leaves of a sound tree in their order: joined they are its bytes, and no seam between neighbours parts a CR from its LF. `sound` asks this of
-- neighbouring children; here it is said of all leaves, as document 01 has it.
use mathlib.Core.Path.{◌≡◌, refl, sym, ap, ◌∙◌}
use mathlib.Core.Bool.{Bool, true, false, not, ◌&&◌}
use mathlib.Core.List.{List, [], ◌∷◌, ◌++◌, map, append-nil}
use Prim.Native.Nat.{ℕ, zero, suc, ◌≤◌}
use native.Mathlib.Omega.{arith}
use lib.Dec.{leb}
use lib.ListN.{length}
use borrow.Author.Tests.{not-true, le-leb, leb-true}
use Rattle.plain.specs.Count.{cr_last, lf_first}
use Rattle.plain.proofs.Logic.{and_left, and_right, and_none}
use Rattle.pool.specs.declared.Kid.{Kid}
use Rattle.nodes.specs.Node.{text_of, children_of}
use Rattle.tree.specs.Tree.{join_over, every, bytes_below, seamless, least_at, sound}
use Rattle.tree.proofs.Lists.{both, join-append, join-cons, join-none, join-filled, every-head, every-tail, every_append}
use Rattle.tree.proofs.Seams.{lf-none, cr-append, lf-append}
use Rattle.tree.specs.Kids.{below, fine}
use Rattle.tree.proofs.Sound.{child-sound, leaf-bytes, list-sound, filled-below}

-- lists joined
unfoldable pub gather : {A B : Type 0} → (A → List B) → List A → List B
gather f [] = []
gather f (x ∷ xs) = f x ++ gather f xs

-- the texts of all leaves below a node
unfoldable pub leaves_below : List ℕ → ℕ → ℕ → List (List ℕ)
unfolding gather
leaves_below m zero s = text_of m s ∷ []
leaves_below m (suc h) s = gather (λ k. leaves_below m h k.slot) (children_of m s)

abbrev pub whole : List (List ℕ) → List ℕ
whole ts = join_over (λ t. t) ts

-- ── joined they are the bytes ──

all-joined : (f : Kid → List (List ℕ)) (g : Kid → List ℕ) → ((k : Kid) → whole (f k) ≡ g k) → (ks : List Kid) → whole (gather f ks) ≡ join_over g ks
unfolding gather join_over
all-joined f g h [] = refl
all-joined f g h (k ∷ ks) = join-append (λ t. t) (f k) (gather f ks) ∙ ap (λ (l : List ℕ). l ++ whole (gather f ks)) (h k) ∙ ap (λ (l : List ℕ). g k ++ l) (all-joined f g h ks)

pub leaves-joined : (m : List ℕ) (h s : ℕ) → whole (leaves_below m h s) ≡ bytes_below m h s
unfolding leaves_below bytes_below
leaves-joined m zero s = join-cons (λ t. t) (text_of m s) [] ∙ ap (λ (l : List ℕ). text_of m s ++ l) (join-none (λ (t : List ℕ). t)) ∙ append-nil (text_of m s)
leaves-joined m (suc h) s = all-joined (λ k. leaves_below m h k.slot) (below m h) (λ k. leaves-joined m h k.slot) (children_of m s)

-- ── seams ──

-- texts none of which is empty
abbrev pub filled : List ℕ → Bool
filled t = leb 1 (length t)

two-lists : (xs ys : List (List ℕ)) → every filled xs ≡ true → every filled ys ≡ true → seamless xs ≡ true → seamless ys ≡ true → (cr_last (whole xs) && lf_first (whole ys)) ≡ false
    → seamless (xs ++ ys) ≡ true
unfolding seamless
two-lists [] ys f g s t e = t
two-lists (x ∷ []) [] f g s t e = refl
two-lists (x ∷ []) (y ∷ ys) f g s t e =
    let cr : whole (x ∷ []) ≡ x = join-cons (λ t. t) x [] ∙ ap (λ (l : List ℕ). x ++ l) (join-none (λ (t : List ℕ). t)) ∙ append-nil x in
    let lf : lf_first (whole (y ∷ ys)) ≡ lf_first y = ap lf_first (join-cons (λ t. t) y ys) ∙ lf-append y (whole ys) (leb-true 1 (length y) (every-head filled y ys g)) in
    both (not (cr_last x && lf_first y)) (seamless (y ∷ ys)) (ap not (sym (ap (λ (b : Bool). cr_last x && b) lf) ∙ sym (ap (λ (l : List ℕ). cr_last l && lf_first (whole (y ∷ ys))) cr) ∙ e)) t
two-lists (x ∷ z ∷ xs) ys f g s t e =
    let n : 1 ≤ length (whole (z ∷ xs)) = join-filled (λ t. t) z xs (leb-true 1 (length z) (every-head filled z xs (every-tail filled x (z ∷ xs) f))) in
    let cr : cr_last (whole (x ∷ z ∷ xs)) ≡ cr_last (whole (z ∷ xs)) = ap cr_last (join-cons (λ t. t) x (z ∷ xs)) ∙ cr-append x (whole (z ∷ xs)) n in
    both (not (cr_last x && lf_first z)) (seamless ((z ∷ xs) ++ ys)) (and_left (not (cr_last x && lf_first z)) (seamless (z ∷ xs)) s)
    (two-lists (z ∷ xs) ys (every-tail filled x (z ∷ xs) f) g (and_right (not (cr_last x && lf_first z)) (seamless (z ∷ xs)) s) t (sym (ap (λ (b : Bool). b && lf_first (whole ys)) cr) ∙ e))

-- of children: their leaves, seamless each, and the seams between them
pub record Leaved (f : Kid → List (List ℕ)) (ks : List Kid) : Type 0 where
  pub seams : seamless (gather f ks) ≡ true
  pub full : every filled (gather f ks) ≡ true

module _ (f : Kid → List (List ℕ)) (g : Kid → List ℕ) (p : Kid → Bool) (joined : (k : Kid) → whole (f k) ≡ g k) (some : (k : Kid) → p k ≡ true → 1 ≤ length (g k))
    (each : (k : Kid) → p k ≡ true → (seamless (f k) ≡ true) × (every filled (f k) ≡ true)) where
  next : (k : Kid) (ks : List Kid) → every p ks ≡ true → seamless (map g (k ∷ ks)) ≡ true → (cr_last (g k) && lf_first (join_over g ks)) ≡ false
  unfolding seamless
  next k [] e s = ap (λ (l : List ℕ). cr_last (g k) && lf_first l) (join-none g) ∙ ap (λ (b : Bool). cr_last (g k) && b) lf-none ∙ and_none (cr_last (g k))
  next k (j ∷ ks) e s =
      ap (λ (b : Bool). cr_last (g k) && b) (ap lf_first (join-cons g j ks) ∙ lf-append (g j) (join_over g ks) (some j (every-head p j ks e)))
      ∙ not-true (cr_last (g k) && lf_first (g j)) (and_left (not (cr_last (g k) && lf_first (g j))) (seamless (map g (j ∷ ks))) s)

  rest : (k : Kid) (ks : List Kid) → seamless (map g (k ∷ ks)) ≡ true → seamless (map g ks) ≡ true
  unfolding seamless
  rest k [] s = refl
  rest k (j ∷ ks) s = and_right (not (cr_last (g k) && lf_first (g j))) (seamless (map g (j ∷ ks))) s

  leaved : (ks : List Kid) → every p ks ≡ true → seamless (map g ks) ≡ true → Leaved f ks
  unfolding gather seamless every
  leaved [] e s = record { seams = refl; full = refl }
  leaved (k ∷ ks) e s =
      let here = each k (every-head p k ks e) in
      let there = leaved ks (every-tail p k ks e) (rest k ks s) in
      let seam : (cr_last (whole (f k)) && lf_first (whole (gather f ks))) ≡ false =
      ap (λ (l : List ℕ). cr_last l && lf_first (whole (gather f ks))) (joined k)
      ∙ ap (λ (l : List ℕ). cr_last (g k) && lf_first l) (all-joined f g joined ks)
      ∙ next k ks (every-tail p k ks e) s in
      record {
        seams = two-lists (f k) (gather f ks) here.1 there.full here.0 there.seams seam;
        full = every_append filled (f k) (gather f ks) here.1 there.full;
      }

module _ (m : List ℕ) where
  below-list : (h s least : ℕ) → ((k : Kid) → fine m h k ≡ true → (seamless (leaves_below m h k.slot) ≡ true) × (every filled (leaves_below m h k.slot) ≡ true))
      → sound m least (suc h) s ≡ true → Leaved (λ k. leaves_below m h k.slot) (children_of m s)
  below-list h s least ih e =
      let l = list-sound m least h s e in
      leaved (λ k. leaves_below m h k.slot) (below m h) (fine m h) (λ k. leaves-joined m h k.slot) (λ k f. filled-below m h k.slot (child-sound m h k f)) ih (children_of m s) l.each l.seams

  inner : (h s : ℕ) → sound m (least_at h) h s ≡ true → (seamless (leaves_below m h s) ≡ true) × (every filled (leaves_below m h s) ≡ true)
  unfolding leaves_below seamless every
  inner zero s e =
      let n = filled-below m 0 s e in
      (refl, both (filled (text_of m s)) true (le-leb 1 (length (text_of m s)) (omega (arith, ap length (leaf-bytes m s)))) refl)
  inner (suc h) s e =
      let r = below-list h s (least_at (suc h)) (λ k f. inner h k.slot (child-sound m h k f)) e in
      (r.seams, r.full)

  -- THEOREM: no seam between neighbouring leaves parts a CR from its LF
  pub leaves-seamless : (least h s : ℕ) → sound m least h s ≡ true → seamless (leaves_below m h s) ≡ true
  unfolding leaves_below seamless
  leaves-seamless least zero s e = refl
  leaves-seamless least (suc h) s e = (below-list h s least (λ k f. inner h k.slot (child-sound m h k f)) e).seams
