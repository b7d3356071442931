-- One step of the packing: what `packed` makes of two leaves. Both stay leaves with text, no other slot changes, and the two texts
-- joined are what they were.
use mathlib.Core.Path.{◌≡◌, refl, sym, ap, subst, ◌∙◌}
use mathlib.Core.Bool.{Bool, true, false}
use mathlib.Core.List.{List, ◌++◌, append_assoc}
use Prim.Native.Nat.{ℕ, ◌+◌, ◌-◌, ◌≤◌, ◌<◌}
use native.Mathlib.Omega.{arith}
use lib.Dec.{eqb}
use lib.ListN.{length, take, drop, length-append, length-drop, take-append-drop}
use lib.Seq.{length-take-le}
use borrow.Author.Tests.{eqb-true, eqb-false, leb-true, leb-false, lt-ltb, le-ltb}
use Rattle.plain.specs.Utf8.{valid_utf8}
use Rattle.plain.proofs.Logic.{cut}
use Rattle.plain.proofs.Utf8.{valid-append}
use Rattle.crlf.specs.Break.{is_break}
use Rattle.crlf.proofs.Breaks.{prev-below, prev-breaks, valid-break}
use Rattle.pool.specs.Slot.{slot_start, slot_of}
use Rattle.nodes.specs.Node.{text_of, leaf_put}
use Rattle.child_info.specs.Leaves.{LeafText, TwoLeaves}
use Rattle.child_info.proofs.TextRead.{text-size}
use Rattle.compact.specs.Pack.{fits, moved, filled, packed}
use Rattle.nodes.proofs.Put.{leaf-size, leaf-put, leaf-text, leaf-others, Same, same}

-- ── a leaf with text ──

pub leaf-stays : (l m : List ℕ) (u : ℕ) → slot_of l u ≡ slot_of m u → length l ≡ length m → LeafText m u → LeafText l u
leaf-stays l m u e n t = let s = same l m u e n in record { leaf = s.leaf ∙ t.leaf; text = ap valid_utf8 s.text ∙ t.text }

module _ (m : List ℕ) (s : ℕ) (t : List ℕ) (h : slot_start s + 640 ≤ length m) (k : length t ≤ 512) where
  pub put-text : valid_utf8 t ≡ true → LeafText (leaf_put m s t) s
  put-text v = record { leaf = leaf-put m s t h k; text = ap valid_utf8 (leaf-text m s t h k) ∙ v }

  pub put_same : (u : ℕ) → (u ≡ s → ⊥) → Same (leaf_put m s t) m u
  put_same u n = same (leaf_put m s t) m u (leaf-others m s t h k u n) (leaf-size m s t h k)

  pub put-stays : (u : ℕ) → (u ≡ s → ⊥) → LeafText m u → LeafText (leaf_put m s t) u
  put-stays u n = leaf-stays (leaf_put m s t) m u (leaf-others m s t h k u n) (leaf-size m s t h k)

-- ── which of its three cases `packed` is ──

module _ (m : List ℕ) (l r : ℕ) where
  pub packed-fits : fits (text_of m l) (text_of m r) ≡ true → packed m l r ≡ leaf_put m l (text_of m l ++ text_of m r)
  unfolding packed
  packed-fits e = rw e

  pub packed-some : fits (text_of m l) (text_of m r) ≡ false → length (text_of m l) < 512
      → packed m l r ≡ filled m l r (text_of m l) (text_of m r) (moved (text_of m l) (text_of m r))
  unfolding packed
  packed-some e h = rw (e, lt-ltb (length (text_of m l)) 512 h)

  pub packed-full : fits (text_of m l) (text_of m r) ≡ false → 512 ≤ length (text_of m l) → packed m l r ≡ m
  unfolding packed
  packed-full e h = rw (e, le-ltb (length (text_of m l)) 512 h)

-- ── where the right text is cut ──

pub record Moved (a b : List ℕ) (k : ℕ) : Type 0 where
  pub room : length a + k ≤ 512
  pub short : k ≤ length b
  pub breaks : is_break b k ≡ true
  pub left : valid_utf8 (take k b) ≡ true
  pub right : valid_utf8 (drop k b) ≡ true

pub moved-is : (a b : List ℕ) → valid_utf8 b ≡ true → fits a b ≡ false → length a < 512 → Moved a b (moved a b)
moved-is a b v e h =
    let n = leb-false (length a + length b) 512 e in
    let p = prev-below b (512 - length a) (omega arith) in
    let q = prev-breaks b (512 - length a) in
    let c = valid-break b (moved a b) v (omega arith) q in
    record { room = omega arith; short = omega arith; breaks = q; left = c.0; right = c.1 }

-- ── the step ──

pub record Packs (m : List ℕ) (l r : ℕ) (after : List ℕ) : Type 0 where
  pub size : length after ≡ length m
  pub others : (u : ℕ) → (u ≡ l → ⊥) → (u ≡ r → ⊥) → slot_of after u ≡ slot_of m u
  pub left : LeafText after l
  pub right : LeafText after r
  pub grows : length (text_of m l) ≤ length (text_of after l)
  pub whole : fits (text_of m l) (text_of m r) ≡ true → text_of after l ≡ text_of m l ++ text_of m r
  pub joined : fits (text_of m l) (text_of m r) ≡ false → text_of after l ++ text_of after r ≡ text_of m l ++ text_of m r

module _ (m : List ℕ) (l r : ℕ) (t : TwoLeaves m l r) where
  abbrev a : List ℕ
  a = text_of m l

  abbrev b : List ℕ
  b = text_of m r

  split : r ≡ l → ⊥
  split e = eqb-false l r t.apart (sym e)

  left_there : slot_start l + 640 ≤ length m
  left_there = (text-size m l t.left.leaf).2

  right_there : slot_start r + 640 ≤ length m
  right_there = (text-size m r t.right.leaf).2

  fits-step : fits a b ≡ true → Packs m l r (leaf_put m l (a ++ b))
  fits-step e =
      let n : length (a ++ b) ≤ 512 = omega (arith, length-append a b, leb-true (length a + length b) 512 e) in
      record {
        size = leaf-size m l (a ++ b) left_there n;
        others = λ u f g. leaf-others m l (a ++ b) left_there n u f;
        left = put-text m l (a ++ b) left_there n (valid-append a b t.left.text t.right.text).0;
        right = put-stays m l (a ++ b) left_there n r split t.right;
        grows = omega (arith, ap length (leaf-text m l (a ++ b) left_there n), length-append a b);
        whole = λ _. leaf-text m l (a ++ b) left_there n;
        joined = λ f. absurd (let z : ◌≡◌ {A = ℕ} 0 1 = cc in omega arith);
      }

  full-step : fits a b ≡ false → Packs m l r m
  full-step e = record {
    size = refl;
    others = λ u f g. refl;
    left = t.left;
    right = t.right;
    grows = omega arith;
    whole = λ f. absurd (let z : ◌≡◌ {A = ℕ} 0 1 = cc in omega arith);
    joined = λ _. refl;
  }

  module _ (k : ℕ) (f : fits a b ≡ false) (d : Moved a b k) where
    left-fits : length (a ++ take k b) ≤ 512
    left-fits = omega (arith, length-append a (take k b), length-take-le k b d.short, d.room)

    right-fits : length (drop k b) ≤ 512
    right-fits = omega (arith, length-drop k b, (text-size m r t.right.leaf).1)

    -- the memory between the two writes
    abbrev between : List ℕ
    between = leaf_put m l (a ++ take k b)

    pub between-size : length between ≡ length m
    between-size = leaf-size m l (a ++ take k b) left_there left-fits

    right-still : slot_start r + 640 ≤ length between
    right-still = omega (arith, between-size, right_there)

    pub between-text : text_of between r ≡ b
    between-text = (put_same m l (a ++ take k b) left_there left-fits r split).text

    pub between-leaf : LeafText between r
    between-leaf = put-stays m l (a ++ take k b) left_there left-fits r split t.right

    other_text : text_of (filled m l r a b k) l ≡ a ++ take k b
    other_text =
        (put_same between r (drop k b) right-still right-fits l (λ e. split (sym e))).text ∙ leaf-text m l (a ++ take k b) left_there left-fits

    some-step : Packs m l r (filled m l r a b k)
    some-step = record {
      size = leaf-size between r (drop k b) right-still right-fits ∙ between-size;
      others = λ u x y. leaf-others between r (drop k b) right-still right-fits u y ∙ leaf-others m l (a ++ take k b) left_there left-fits u x;
      left = put-stays between r (drop k b) right-still right-fits l (λ e. split (sym e)) (put-text m l (a ++ take k b) left_there left-fits (valid-append a (take k b) t.left.text d.left).0);
      right = put-text between r (drop k b) right-still right-fits d.right;
      grows = omega (arith, ap length other_text, length-append a (take k b));
      whole = λ e. absurd (let z : ◌≡◌ {A = ℕ} 0 1 = cc in omega arith);
      joined = λ _.
          ap (λ (x : List ℕ). x ++ text_of (filled m l r a b k) r) other_text
          ∙ ap (λ (x : List ℕ). (a ++ take k b) ++ x) (leaf-text between r (drop k b) right-still right-fits)
          ∙ append_assoc a (take k b) (drop k b)
          ∙ ap (λ (x : List ℕ). a ++ x) (take-append-drop k b);
    }

  -- THEOREM
  pub packed_step : Packs m l r (packed m l r)
  packed_step = go (fits a b) refl
    where
      go : (q : Bool) → fits a b ≡ q → Packs m l r (packed m l r)
      go true e = subst (λ (x : List ℕ). Packs m l r x) (sym (packed-fits m l r e)) (fits-step e)
      go false e =
          cut (length a) 512
          (λ h. subst (λ (x : List ℕ). Packs m l r x) (sym (packed-some m l r e h)) (some-step (moved a b) e (moved-is a b t.right.text e h)))
          (λ h. subst (λ (x : List ℕ). Packs m l r x) (sym (packed-full m l r e h)) (full-step e))

  -- every leaf stays one
  pub packed-stays : (u : ℕ) → LeafText m u → LeafText (packed m l r) u
  packed-stays u x = go (eqb u l) refl (eqb u r) refl
    where
      go : (p : Bool) → eqb u l ≡ p → (q : Bool) → eqb u r ≡ q → LeafText (packed m l r) u
      go true e q f = subst (λ (s : ℕ). LeafText (packed m l r) s) (sym (eqb-true u l e)) packed_step.left
      go false e true f = subst (λ (s : ℕ). LeafText (packed m l r) s) (sym (eqb-true u r f)) packed_step.right
      go false e false f = leaf-stays (packed m l r) m u (packed_step.others u (eqb-false u l e) (eqb-false u r f)) packed_step.size x
