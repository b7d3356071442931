-- A text laid at the front of a slot's region, and the slot made a leaf: from what the calls of the layers below promise to the memory
-- that `Calls` asks for.
use Rattle.std.specs.Prelude.{Ok, Err}
use mathlib.Core.Path.{◌≡◌, refl, sym, ap, subst, ◌∙◌}
use mathlib.Core.Bool.{true, false, ◌||◌}
use mathlib.Core.List.{List, [], ◌∷◌, ◌++◌, append_assoc, append-nil}
use Prim.Native.Nat.{ℕ, ◌+◌, ◌-◌, ◌≤◌}
use native.Mathlib.Omega.{arith}
use lib.ListN.{length, take, drop, length-append, length-drop, take-append-drop}
use lib.Seq.{take-take, drop-drop, length-take-le}
use borrow.Author.Tests.{le-ltb}
use borrow.Rule.Slice.PartMut.{put_mid}
use Rattle.plain.specs.Edit.{replaced}
use Rattle.plain.specs.Outcome.{Outcome, Outcome.value, Outcome.refused, past, kept}
use Rattle.plain.proofs.Logic.{neither}
use Rattle.plain.proofs.Outcome.{rule-passed, one-passed, accepted, all-accepted}
use Rattle.answer.specs.Answers.{refusal_number, Answer, outcome}
use Rattle.answer.specs.declared.Refusal.{Refusal}
use Rattle.leaf_bytes.specs.Leaf.{leaf_of, over, laid, written, Leaf, Leaves}
use Rattle.octets.specs.Over.{overlaid}
use Rattle.leaf_bytes.specs.Raw.{replacing}
use Rattle.leaf_bytes.proofs.Calls.{replace-done}
use Rattle.octets.proofs.Over.{overlaid-length, part-is}
use Rattle.leaf_bytes.proofs.Opened.{never}
use Rattle.leaf_bytes.proofs.Rules.{over-fits, replacing-is}
use Rattle.pool.specs.Slot.{slot_start, region_of, head_put, region_put}
use Rattle.pool.specs.Calls.{outside, region_start, head_set, Wrote}
use Rattle.pool.proofs.Opened.{region-opened}
use Rattle.pool.proofs.Slots.{region-length, region-lies, region-lent, region-back}
use Rattle.nodes.specs.Node.{leaf_put}
use Rattle.nodes.specs.Calls.{LeafWrote}
use Rattle.nodes.proofs.Heads.{not-outside, one-refused}

-- ── a slot's region, lent ──

-- that of a slot in the memory is never refused
pub region-there : (r : Answer ℕ) (m : List ℕ) (s : ℕ) (q : Refusal) → outcome r ≡ region_start m s → r ≡ Err q → slot_start s + 640 ≤ length m → ⊥
unfolding region_start
region-there r m s q p e h = never _ (slot_start s + 128) (sym (ap outcome e) ∙ p ∙ one-passed 2 (outside m s) (slot_start s + 128) (not-outside m s h))

-- refused, its slot is outside; answered, inside
pub region-outside : (r : Answer ℕ) (m : List ℕ) (s : ℕ) (q : Refusal) → outcome r ≡ region_start m s → r ≡ Err q → (outside m s ≡ true) × (refusal_number q ≡ 2)
unfolding region_start
region-outside r m s q p e = one-refused 2 (outside m s) (slot_start s + 128) (refusal_number q) (sym (ap outcome e) ∙ p)

pub region-inside : (r : Answer ℕ) (m : List ℕ) (s a : ℕ) → outcome r ≡ region_start m s → r ≡ Ok a → outside m s ≡ false
region-inside r m s a p e = not-outside m s (region-opened r m s a p e).0

-- a text lent as `&m[a..a + n]`
pub text-lent : (m : List ℕ) (s a n : ℕ) → a ≡ slot_start s + 128 → n ≤ 512 → take (a + n - a) (drop a m) ≡ take n (region_of m s)
text-lent m s a n e h =
    let z : a + n - a ≡ n = omega arith in
    ap (λ (k : ℕ). take k (drop a m)) z
    ∙ ap (λ (k : ℕ). take n (drop k m)) e
    ∙ sym (take-take n 512 (drop (slot_start s + 128) m) h)
    ∙ ap (take n) (sym (region-lies m s))

-- ── a text at the front of a region ──

-- what stands behind the text in the region and behind the region is what stood behind the text
front-laid : (p n : ℕ) (t m : List ℕ) → p + n ≤ length m → length t ≤ n → overlaid p (laid (take n (drop p m)) t) m ≡ overlaid p t m
front-laid p n t m h k =
    let r = take n (drop p m) in
    let j = length t in
    let long : length r ≡ n = length-take-le n (drop p m) (omega (arith, length-drop p m)) in
    let size : length (laid r t) ≡ n = omega (arith, length-append t (drop j r), length-drop j r) in
    let rest : drop j r ≡ take (n - j) (drop (p + j) m) = part-is j n (drop p m) ∙ ap (take (n - j)) (drop-drop j p m) in
    let e : p + length (laid r t) ≡ p + j + (n - j) = omega arith in
    let behind : drop (p + length (laid r t)) m ≡ drop (n - j) (drop (p + j) m) = ap (λ (i : ℕ). drop i m) e ∙ sym (drop-drop (n - j) (p + j) m) in
    ap (λ (l : List ℕ). take p m ++ (laid r t ++ l)) behind
    ∙ ap (λ (l : List ℕ). take p m ++ l) (append_assoc t (drop j r) (drop (n - j) (drop (p + j) m)))
    ∙ ap (λ (l : List ℕ). take p m ++ (t ++ (l ++ drop (n - j) (drop (p + j) m)))) rest
    ∙ ap (λ (l : List ℕ). take p m ++ (t ++ l)) (take-append-drop (n - j) (drop (p + j) m))

none_over : (p : ℕ) (m : List ℕ) → overlaid p [] m ≡ m
none_over p m = let z : p + 0 ≡ p = omega arith in ap (λ (i : ℕ). take p m ++ drop i m) z ∙ take-append-drop p m

-- a text that fits, put where nothing was
pub replacing-whole : (region piece : List ℕ) → length piece ≤ 512 → length piece ≤ length region → replacing region 0 0 0 piece ≡ value piece
replacing-whole region piece h k =
    replace-done region 0 0 0 piece (omega arith) (omega arith) (omega arith) (omega arith) ∙ ap (λ (l : List ℕ). value l) (append-nil piece)

-- what it leaves is a leaf
pub replacing-small : (region : List ℕ) (len i e : ℕ) (piece t : List ℕ) → replacing region len i e piece ≡ value t → length t ≤ 512
replacing-small region len i e piece t h =
    let new = replaced i e piece (leaf_of region len) in
    let long = over region len || over region (length new) in
    let place = accepted 3 (past i e || past e (length (leaf_of region len))) ((11, long) ∷ []) new t (sym (replacing-is region len i e piece) ∙ h) in
    let size = accepted 11 long [] new t place.1 in
    let fits = over-fits region (length new) (neither (over region len) (over region (length new)) size.0).1 in
    omega (arith, fits.0, ap length (all-accepted new t size.1))

-- ── an answer opened ──

pub record Gave (o : Outcome (List ℕ)) (before : List ℕ) (len : ℕ) (after : List ℕ) : Type 0 where
  pub text : List ℕ
  pub is : o ≡ value text
  pub size : length text ≡ len
  pub region : after ≡ laid before text

pub gave : (o : Outcome (List ℕ)) (before : List ℕ) (r : Answer ℕ) (after : List ℕ) (len : ℕ) → Leaf o before r after → r ≡ Ok len → Gave o before len after
gave (value t) before r after len w e = record { text = t; is = refl; size = (let p = w.answered in let q = ap outcome e in let z : len ≡ length t = cc in sym z); region = w.region }
gave (refused n) before r after len w e = absurd (never n len (sym w.answered ∙ ap outcome e))

pub record GaveTwo (o : Outcome (List ℕ × List ℕ)) (left right : List ℕ) (l r : ℕ) (left-after right-after : List ℕ) : Type 0 where
  pub text : List ℕ
  pub other : List ℕ
  pub is : o ≡ value (text, other)
  pub size : length text ≡ l
  pub other-size : length other ≡ r
  pub region : left-after ≡ laid left text
  pub other-region : right-after ≡ laid right other

pub gave-two : (o : Outcome (List ℕ × List ℕ)) (left right : List ℕ) (a : Answer (ℕ × ℕ)) (la ra : List ℕ) (l r : ℕ) → Leaves o left right a la ra → a ≡ Ok (l, r) → GaveTwo o left right l r la ra
gave-two (value t) left right a la ra l r w e =
    let p = w.answered in
    let q = ap outcome e in
    let z : ◌≡◌ {A = ℕ × ℕ} (l, r) (length t.0, length t.1) = cc in
    record {
      text = t.0;
      other = t.1;
      is = refl;
      size = sym (ap (λ (i : ℕ × ℕ). i.0) z);
      other-size = sym (ap (λ (i : ℕ × ℕ). i.1) z);
      region = w.left-region;
      other-region = w.right-region;
    }
gave-two (refused n) left right a la ra l r w e = absurd (never n (l, r) (sym w.answered ∙ ap outcome e))

-- ── a head set ──

pub leaf-set : (m : List ℕ) (s len : ℕ) (v : Answer (Unit {0})) (after : List ℕ) → Wrote (head_set m s 1 len 512 0) m v after → slot_start s + 640 ≤ length m → len ≤ 512
    → after ≡ head_put m s 1 len 0
unfolding head_set
leaf-set m s len v after w h k =
    let p = head_put m s 1 len 0 in
    w.memory ∙ ap (λ (o : Outcome (List ℕ)). kept m o) (rule-passed 2 (outside m s) _ p (not-outside m s h) ∙ one-passed 11 _ p (le-ltb 512 len k))

-- ── a slot's region lent as `&mut m[a..end]`, and back ──

module _ (m : List ℕ) (s : ℕ) (h : slot_start s + 640 ≤ length m) (a end : ℕ) (f : a ≡ slot_start s + 128) (g : end ≡ a + 512) where
  abbrev lent : List ℕ
  lent = take (end - a) (drop a m)

  pub lent-put : (t y : List ℕ) → length t ≤ 512 → y ≡ laid lent t → put_mid a (end - a) m y ≡ overlaid (slot_start s + 128) t m
  lent-put t y k e =
      let z = e ∙ ap (λ (r : List ℕ). laid r t) (region-lent m s a end f g) in
      let r = region_of m s in
      let n : length y ≡ 512 = ap length z ∙ (omega (arith, length-append t (drop (length t) r), length-drop (length t) r, region-length m s h)) in
      region-back m s y h n a end f g
      ∙ ap (region_put m s) (z ∙ ap (λ (r : List ℕ). laid r t) (region-lies m s))
      ∙ front-laid (slot_start s + 128) 512 t m (omega arith) k

  pub lent_same : (y : List ℕ) → y ≡ lent → put_mid a (end - a) m y ≡ m
  lent_same y e = lent-put [] y (omega arith) e ∙ none_over (slot_start s + 128) m

  pub lent-size : (t y : List ℕ) → length t ≤ 512 → y ≡ laid lent t → length (put_mid a (end - a) m y) ≡ length m
  lent-size t y k e = ap length (lent-put t y k e) ∙ overlaid-length (slot_start s + 128) t m (omega arith)

  -- the text laid and the head set
  pub leaf-made : (t y : List ℕ) (v : Answer (Unit {0})) (after : List ℕ) → length t ≤ 512 → y ≡ laid lent t
      → Wrote (head_set (put_mid a (end - a) m y) s 1 (length t) 512 0) (put_mid a (end - a) m y) v after → after ≡ leaf_put m s t
  leaf-made t y v after k e w =
      leaf-set (put_mid a (end - a) m y) s (length t) v after w (omega (arith, lent-size t y k e)) k ∙ ap (λ (l : List ℕ). head_put l s 1 (length t) 0) (lent-put t y k e)

  -- a text put where nothing was, and the head set
  pub lay_done : (t : List ℕ) (r : Answer ℕ) (y : List ℕ) → length t ≤ 512 → Leaf (replacing lent 0 0 0 t) lent r y
      → (v : Answer (Unit {0})) (after : List ℕ) → Wrote (head_set (put_mid a (end - a) m y) s 1 (length t) 512 0) (put_mid a (end - a) m y) v after → after ≡ leaf_put m s t
  lay_done t r y k w v after u =
      let room : length lent ≡ 512 = ap length (region-lent m s a end f g) ∙ region-length m s h in
      leaf-made t y v after k (w.region ∙ ap (written lent) (replacing-whole lent t k (omega arith))) u

  -- ── `replace_at` ──

  module _ (n i e : ℕ) (piece : List ℕ) (r : Answer ℕ) (y : List ℕ) (promise : Leaf (replacing lent n i e piece) lent r y) where
    now-region : Leaf (replacing (region_of m s) n i e piece) (region_of m s) r y
    now-region = subst (λ (b : List ℕ). Leaf (replacing b n i e piece) b r y) (region-lent m s a end f g) promise

    pub replace-not : (q : Refusal) → r ≡ Err q → LeafWrote (replacing (region_of m s) n i e piece) m s r (put_mid a (end - a) m y)
    replace-not q z = go (replacing (region_of m s) n i e piece) now-region
      where
        go : (o : Outcome (List ℕ)) → Leaf o (region_of m s) r y → LeafWrote o m s r (put_mid a (end - a) m y)
        go (value t) w = absurd (never _ (length t) (sym (ap outcome z) ∙ w.answered))
        go (refused k) w = record { answered = w.answered; memory = lent_same y (w.region ∙ sym (region-lent m s a end f g)) }

    pub replace-set : (len : ℕ) (v : Answer (Unit {0})) (after : List ℕ) → r ≡ Ok len
        → Wrote (head_set (put_mid a (end - a) m y) s 1 len 512 0) (put_mid a (end - a) m y) v after
        → LeafWrote (replacing (region_of m s) n i e piece) m s (Ok len) after
    replace-set len v after z w =
        let d = gave (replacing (region_of m s) n i e piece) (region_of m s) r y len now-region z in
        let t = d.text in
        let small = replacing-small (region_of m s) n i e piece t d.is in
        let l : y ≡ laid lent t = d.region ∙ ap (λ (b : List ℕ). laid b t) (sym (region-lent m s a end f g)) in
        let u : Wrote (head_set (put_mid a (end - a) m y) s 1 (length t) 512 0) (put_mid a (end - a) m y) v after =
        subst (λ (k : ℕ). Wrote (head_set (put_mid a (end - a) m y) s 1 k 512 0) (put_mid a (end - a) m y) v after) (sym d.size) w in
        subst (λ (o : Outcome (List ℕ)). LeafWrote o m s (Ok len) after) (sym d.is)
        (record { answered = ap (λ (k : ℕ). value k) (sym d.size); memory = leaf-made t y v after small l u })
