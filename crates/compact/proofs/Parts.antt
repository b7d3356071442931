-- Children that are some of others, in their order, and what of the others holds of them: slots that are not among theirs, that none is
-- twice, and that they are leaves.
use mathlib.Core.Path.{◌≡◌, refl, sym, ap, subst, ◌∙◌}
use mathlib.Core.Bool.{Bool, true, false, ◌||◌, true≢false, false≢true}
use mathlib.Core.List.{List, [], ◌∷◌, ◌++◌}
use Prim.Native.Nat.{ℕ, zero, suc, ◌+◌, ◌≤◌, ◌<◌}
use native.Mathlib.Omega.{arith}
use native.Mathlib.Numerals.{add-one}
use lib.Dec.{eqb}
use lib.ListN.{length, take, drop}
use borrow.Author.Tests.{eq-eqb, ne_eqb, eqb-true}
use Rattle.plain.proofs.Logic.{or_left, or_right, or-none, neither}
use Rattle.pool.specs.declared.Kid.{Kid}
use Rattle.node_children.specs.Calls.{without}
use Rattle.child_info.specs.Kin.{slots_of, slot_in, among, repeats}
use Rattle.child_info.specs.Leaves.{LeafText, TwoLeaves, AllLeaves}
use Rattle.nodes.proofs.Heads.{not_so}

pub data Part : List Kid → List Kid → Type 0 where
  none : Part [] []
  keep : {k : Kid} {xs ys : List Kid} → Part xs ys → Part (k ∷ xs) (k ∷ ys)
  skip : {k : Kid} {xs ys : List Kid} → Part xs ys → Part xs (k ∷ ys)

pub part-all : (ks : List Kid) → Part ks ks
part-all [] = none
part-all (k ∷ ks) = keep (part-all ks)

pub part-of-part : {xs ys zs : List Kid} → Part xs ys → Part ys zs → Part xs zs
part-of-part p none = p
part-of-part p (skip q) = skip (part-of-part p q)
part-of-part (keep p) (keep q) = keep (part-of-part p q)
part-of-part (skip p) (keep q) = skip (part-of-part p q)

pub part_length : {xs ys : List Kid} → Part xs ys → length xs ≤ length ys
part_length none = omega arith
part_length (keep p) = let h = part_length p in omega arith
part_length (skip p) = let h = part_length p in omega arith

but-one : (i : ℕ) (ks : List Kid) → Part (take i ks ++ drop (suc i) ks) ks
but-one zero [] = none
but-one (suc i) [] = none
but-one zero (k ∷ ks) = skip (part-all ks)
but-one (suc i) (k ∷ ks) = keep (but-one i ks)

pub without-part : (i : ℕ) (ks : List Kid) → Part (without i ks) ks
without-part i ks = rw (add-one i) (but-one i ks)

-- ── slots ──

or-on : (a b c : Bool) → (b ≡ true → c ≡ true) → (a || b) ≡ true → (a || c) ≡ true
or-on true b c f e = refl
or-on false b c f e = f e

pub part-among : {xs ys : List Kid} (s : ℕ) → Part xs ys → among s (slots_of xs) ≡ true → among s (slots_of ys) ≡ true
part-among s none e = e
part-among s (keep {k} {xs} {ys} p) e = or-on (eqb k.slot s) (among s (slots_of xs)) (among s (slots_of ys)) (part-among s p) e
part-among s (skip {k} {xs} {ys} p) e = or_right (eqb k.slot s) (among s (slots_of ys)) (part-among s p e)

pub part_apart : {xs ys : List Kid} (s : ℕ) → Part xs ys → among s (slots_of ys) ≡ false → among s (slots_of xs) ≡ false
part_apart {xs} s p e = not_so (among s (slots_of xs)) (λ f. true≢false (sym (part-among s p f) ∙ e))

pub part-repeats : {xs ys : List Kid} → Part xs ys → repeats (slots_of ys) ≡ false → repeats (slots_of xs) ≡ false
part-repeats none e = e
part-repeats (keep {k} {xs} {ys} p) e =
    let n = neither (among k.slot (slots_of ys)) (repeats (slots_of ys)) e in
    or-none (among k.slot (slots_of xs)) (repeats (slots_of xs)) (part_apart k.slot p n.0) (part-repeats p n.1)
part-repeats (skip {k} {xs} {ys} p) e = part-repeats p (neither (among k.slot (slots_of ys)) (repeats (slots_of ys)) e).1

pub slot-among : (ks : List Kid) (i : ℕ) → i < length ks → among (slot_in ks i) (slots_of ks) ≡ true
slot-among [] i h = absurd (omega arith)
slot-among (k ∷ ks) zero h = or_left (eqb k.slot k.slot) (among k.slot (slots_of ks)) (eq-eqb k.slot k.slot refl)
slot-among (k ∷ ks) (suc i) h = or_right (eqb k.slot (slot_in ks i)) (among (slot_in ks i) (slots_of ks)) (slot-among ks i (omega arith))

-- another slot is none of theirs
pub slot-other : (ks : List Kid) (s i : ℕ) → among s (slots_of ks) ≡ false → i < length ks → s ≡ slot_in ks i → ⊥
slot-other ks s i e h f = true≢false (sym (slot-among ks i h) ∙ ap (λ (u : ℕ). among u (slots_of ks)) (sym f) ∙ e)

pub slots_apart : (ks : List Kid) (i j : ℕ) → repeats (slots_of ks) ≡ false → i < j → j < length ks → slot_in ks i ≡ slot_in ks j → ⊥
slots_apart [] i j e h g = absurd (omega arith)
slots_apart (k ∷ ks) i zero e h g = absurd (omega arith)
slots_apart (k ∷ ks) zero (suc j) e h g = slot-other ks k.slot j (neither (among k.slot (slots_of ks)) (repeats (slots_of ks)) e).0 (omega arith)
slots_apart (k ∷ ks) (suc i) (suc j) e h g = slots_apart ks i j (neither (among k.slot (slots_of ks)) (repeats (slots_of ks)) e).1 (omega arith) (omega arith)

-- ── leaves ──

pub leaf-among : (m : List ℕ) (ks : List Kid) → ((i : ℕ) → i < length ks → LeafText m (slot_in ks i)) → (s : ℕ) → among s (slots_of ks) ≡ true → LeafText m s
leaf-among m [] f s e = absurd (false≢true e)
leaf-among m (k ∷ ks) f s e = go (eqb k.slot s) refl e (leaf-among m ks (λ i h. f (suc i) (omega arith)) s)
  where
    go : (t : Bool) → eqb k.slot s ≡ t → (t || among s (slots_of ks)) ≡ true → (among s (slots_of ks) ≡ true → LeafText m s) → LeafText m s
    go true d e g = subst (λ (u : ℕ). LeafText m u) (eqb-true k.slot s d) (f 0 (omega arith))
    go false d e g = g e

pub part-leaves : (m : List ℕ) {xs ys : List Kid} → Part xs ys → AllLeaves m ys → AllLeaves m xs
part-leaves m {xs} {ys} p l = record { each = λ i h. leaf-among m ys l.each (slot_in xs i) (part-among (slot_in xs i) p (slot-among xs i h)); apart = part-repeats p l.apart }

-- in another memory in which every leaf is one
pub leaves-stay : (l m : List ℕ) (ks : List Kid) → ((u : ℕ) → LeafText m u → LeafText l u) → AllLeaves m ks → AllLeaves l ks
leaves-stay l m ks f a = record { each = λ i h. f (slot_in ks i) (a.each i h); apart = a.apart }

pub two-leaves : (m : List ℕ) (ks : List Kid) (i j : ℕ) → AllLeaves m ks → i < j → j < length ks → TwoLeaves m (slot_in ks i) (slot_in ks j)
two-leaves m ks i j a h g = record { left = a.each i (omega arith); right = a.each j g; apart = ne_eqb (slot_in ks i) (slot_in ks j) (slots_apart ks i j a.apart h g) }
