-- THEOREMS of the packing: the texts of the children joined are what they were, and any two neighbours that are left have more than 512
-- bytes together. No function's proof needs them.
use mathlib.Core.Path.{◌≡◌, refl, sym, ap, subst, ◌∙◌}
use mathlib.Core.Bool.{Bool, true, false, cond}
use mathlib.Core.List.{List, [], ◌∷◌, ◌++◌, append_assoc}
use Prim.Native.Nat.{ℕ, zero, suc, ◌+◌, ◌≤◌, ◌<◌}
use native.Mathlib.Omega.{arith}
use lib.ListN.{length, length-append}
use borrow.Author.Tests.{leb-false}
use Rattle.plain.proofs.Logic.{neither}
use Rattle.pool.specs.declared.Kid.{Kid}
use Rattle.pool.specs.Slot.{slot_of}
use Rattle.nodes.specs.Node.{text_of}
use Rattle.child_info.specs.Kin.{slots_of, slot_in, among, repeats}
use Rattle.child_info.specs.Leaves.{AllLeaves}
use Rattle.compact.specs.Pack.{fits, packed, packed_from, packed_all}
use Rattle.nodes.proofs.Put.{same}
use Rattle.compact.proofs.Packed.{Packs}
use Rattle.compact.proofs.Parts.{slot-other}
use Rattle.compact.proofs.Packing.{Packing, packing-from, step, less-leaves, rest-leaves}

-- the texts of children, joined
unfoldable pub texts_of : List ℕ → List Kid → List ℕ
texts_of m [] = []
texts_of m (k ∷ ks) = text_of m k.slot ++ texts_of m ks

pub texts-stay : (l m : List ℕ) (ks : List Kid) → length l ≡ length m → ((i : ℕ) → i < length ks → slot_of l (slot_in ks i) ≡ slot_of m (slot_in ks i)) → texts_of l ks ≡ texts_of m ks
unfolding texts_of
texts-stay l m [] n f = refl
texts-stay l m (k ∷ ks) n f =
    ap (λ (t : List ℕ). t ++ texts_of l ks) (same l m k.slot (f 0 (omega arith)) n).text
    ∙ ap (λ (t : List ℕ). text_of m k.slot ++ t) (texts-stay l m ks n (λ i h. f (suc i) (omega arith)))

-- neighbours that have no room in one leaf
abbrev pub Over : List ℕ → List Kid → Type 0
Over m [] = Unit {0}
Over m (k ∷ []) = Unit {0}
Over m (k ∷ j ∷ ks) = (512 < length (text_of m k.slot) + length (text_of m j.slot)) × Over m (j ∷ ks)

pub over-at : (m : List ℕ) (ks : List Kid) → Over m ks → (i : ℕ) → suc i < length ks → 512 < length (text_of m (slot_in ks i)) + length (text_of m (slot_in ks (suc i)))
over-at m [] o i h = absurd (omega arith)
over-at m (k ∷ []) o i h = absurd (omega arith)
over-at m (k ∷ j ∷ ks) o zero h = o.0
over-at m (k ∷ j ∷ ks) o (suc i) h = over-at m (j ∷ ks) o.1 i (omega arith)

-- ── a step ──

pub record Full (m : List ℕ) (l : Kid) (rs : List Kid) (p : List ℕ × List Kid) : Type 0 where
  pub tail : List Kid
  pub first : p.1 ≡ l ∷ tail
  pub grows : length (text_of m l.slot) ≤ length (text_of p.0 l.slot)
  pub over : Over p.0 p.1
  pub texts : texts_of p.0 p.1 ≡ texts_of m (l ∷ rs)

module _ (m : List ℕ) (l r : Kid) (rs : List Kid) (a : AllLeaves m (l ∷ r ∷ rs)) where
  abbrev next : List ℕ
  next = packed m l.slot r.slot

  this-turn : Packs m l.slot r.slot next
  this-turn = step m l r rs a

  left-apart : among l.slot (slots_of (r ∷ rs)) ≡ false
  left-apart = (neither (among l.slot (slots_of (r ∷ rs))) (repeats (slots_of (r ∷ rs))) a.apart).0

  right-apart : among r.slot (slots_of rs) ≡ false
  right-apart = (neither (among r.slot (slots_of rs)) (repeats (slots_of rs)) (neither (among l.slot (slots_of (r ∷ rs))) (repeats (slots_of (r ∷ rs))) a.apart).1).0

  rest-stay : texts_of next rs ≡ texts_of m rs
  rest-stay =
      texts-stay next m rs this-turn.size
      (λ i h. this-turn.others (slot_in rs i) (λ e. slot-other (r ∷ rs) l.slot (suc i) left-apart (omega arith) (sym e)) (λ e. slot-other rs r.slot i right-apart h (sym e)))

  went : (p : List ℕ × List Kid) → fits (text_of m l.slot) (text_of m r.slot) ≡ true → Full next l rs p → Full m l (r ∷ rs) p
  unfolding texts_of
  went p e f = record {
    tail = f.tail;
    first = f.first;
    grows = omega (arith, f.grows, this-turn.grows);
    over = f.over;
    texts =
        f.texts
        ∙ ap (λ (t : List ℕ). t ++ texts_of next rs) (this-turn.whole e)
        ∙ append_assoc (text_of m l.slot) (text_of m r.slot) (texts_of next rs)
        ∙ ap (λ (t : List ℕ). text_of m l.slot ++ (text_of m r.slot ++ t)) rest-stay;
  }

  stayed : (q : List ℕ × List Kid) → fits (text_of m l.slot) (text_of m r.slot) ≡ false → Packing next (r ∷ rs) q → Full next r rs q → Full m l (r ∷ rs) (q.0, l ∷ q.1)
  unfolding texts_of
  stayed q e y f =
      let same_left : text_of q.0 l.slot ≡ text_of next l.slot = (same q.0 next l.slot (y.others l.slot left-apart) y.size).text in
      let both = this-turn.joined e in
      let long = leb-false (length (text_of m l.slot) + length (text_of m r.slot)) 512 e in
      let sum : length (text_of next l.slot) + length (text_of next r.slot) ≡ length (text_of m l.slot) + length (text_of m r.slot) =
      omega (arith, ap length both, length-append (text_of next l.slot) (text_of next r.slot), length-append (text_of m l.slot) (text_of m r.slot)) in
      let pair : 512 < length (text_of q.0 l.slot) + length (text_of q.0 r.slot) = omega (arith, ap length same_left, f.grows) in
      record {
        tail = q.1;
        first = refl;
        grows = omega (arith, ap length same_left, this-turn.grows);
        over = subst (λ (ks : List Kid). Over q.0 (l ∷ ks)) (sym f.first) (pair, subst (λ (ks : List Kid). Over q.0 ks) f.first f.over);
        texts =
            ap (λ (t : List ℕ). t ++ texts_of q.0 q.1) same_left
            ∙ ap (λ (t : List ℕ). text_of next l.slot ++ t) f.texts
            ∙ sym (append_assoc (text_of next l.slot) (text_of next r.slot) (texts_of next rs))
            ∙ ap (λ (t : List ℕ). t ++ texts_of next rs) both
            ∙ append_assoc (text_of m l.slot) (text_of m r.slot) (texts_of next rs)
            ∙ ap (λ (t : List ℕ). text_of m l.slot ++ (text_of m r.slot ++ t)) rest-stay;
      }

  full_by : (t : Bool) → fits (text_of m l.slot) (text_of m r.slot) ≡ t → (p q : List ℕ × List Kid) → Full next l rs p → Packing next (r ∷ rs) q → Full next r rs q
      → Full m l (r ∷ rs) (cond t p (q.0, l ∷ q.1))
  full_by true e p q x y f = went p e x
  full_by false e p q x y f = stayed q e y f

pub full_from : (rs : List Kid) (m : List ℕ) (l : Kid) → AllLeaves m (l ∷ rs) → Full m l rs (packed_from m l rs)
unfolding packed_from
full_from [] m l a = record { tail = []; first = refl; grows = omega arith; over = tt; texts = refl }
full_from (r ∷ rs) m l a =
    full_by m l r rs a (fits (text_of m l.slot) (text_of m r.slot)) refl _ _ (full_from rs (packed m l.slot r.slot) l (less-leaves m l r rs a))
    (packing-from rs (packed m l.slot r.slot) r (rest-leaves m l r rs a)) (full_from rs (packed m l.slot r.slot) r (rest-leaves m l r rs a))

-- ── all of them ──

module _ (m : List ℕ) (ks : List Kid) (a : AllLeaves m ks) where
  -- THEOREM
  pub packed-texts : texts_of (packed_all m ks).0 (packed_all m ks).1 ≡ texts_of m ks
  packed-texts = go ks a
    where
      go : (js : List Kid) → AllLeaves m js → texts_of (packed_all m js).0 (packed_all m js).1 ≡ texts_of m js
      go [] b = refl
      go (k ∷ js) b = (full_from js m k b).texts

  -- THEOREM
  pub packed-over : Over (packed_all m ks).0 (packed_all m ks).1
  packed-over = go ks a
    where
      go : (js : List Kid) → AllLeaves m js → Over (packed_all m js).0 (packed_all m js).1
      go [] b = tt
      go (k ∷ js) b = (full_from js m k b).over
