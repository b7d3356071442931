-- Two leaves joined: from what the calls on a leaf promise to what the join comes to.
use Rattle.answer.specs.Answers.{Answer, outcome}
use Rattle.std.specs.Prelude.{Err}
use mathlib.Core.Path.{◌≡◌, sym, ap, subst, ◌∙◌}
use mathlib.Core.Bool.{Bool, true, false, ◌||◌, cond}
use mathlib.Core.List.{List, [], ◌∷◌, ◌++◌}
use Prim.Native.Nat.{ℕ, ◌+◌, ◌-◌, ◌≤◌, ◌<◌}
use native.Mathlib.Omega.{arith}
use lib.ListN.{length, take, drop, length-append}
use borrow.Author.Tests.{le-leb, lt-leb, eqb-false}
use Rattle.plain.specs.Outcome.{Outcome, Outcome.value, Outcome.refused, ruled, past, kept, mapped}
use Rattle.answer.specs.declared.Refusal.{Refusal}
use Rattle.leaf_bytes.specs.Split.{half_split}
use Rattle.nodes.specs.Node.{text_of, leaf_put}
use Rattle.nodes.specs.Calls.{leaf_edited, leaf_halved, LeafWrote, LeavesWrote}
use Rattle.nodes.proofs.Heads.{leaf-says}
use Rattle.nodes.proofs.Accepted.{text-length, push-accepted, push-halved}
use Rattle.child_info.specs.Leaves.{TwoLeaves}
use Rattle.merge.specs.Join.{parted, joined_text, Joined}

-- ── answers ──

module _ (o : Outcome (Bool × List ℕ)) (m : List ℕ) (r : Answer Bool) (after : List ℕ) where
  pub joined-done : (q : Bool) (l : List ℕ) → o ≡ value (q, l) → outcome r ≡ value q → after ≡ l → Joined o m r after
  joined-done q l e f g =
      record { answered = f ∙ sym (ap (λ (p : Outcome (Bool × List ℕ)). mapped (λ t. t.0) p) e); memory = g ∙ sym (ap (λ (p : Outcome (Bool × List ℕ)). kept m (mapped (λ t. t.1) p)) e) }

  pub joined-not : (n : ℕ) → o ≡ refused n → outcome r ≡ refused n → after ≡ m → Joined o m r after
  joined-not n e f g =
      record { answered = f ∙ sym (ap (λ (p : Outcome (Bool × List ℕ)). mapped (λ t. t.0) p) e); memory = g ∙ sym (ap (λ (p : Outcome (Bool × List ℕ)). kept m (mapped (λ t. t.1) p)) e) }

  -- two joins that come to the same
  pub joined_same : (p : Outcome (Bool × List ℕ)) → o ≡ p → Joined p m r after → Joined o m r after
  joined_same p e j = subst (λ (x : Outcome (Bool × List ℕ)). Joined x m r after) (sym e) j

pub merged-answer : (n : Answer ℕ) (q : Refusal) → n ≡ Err q → outcome (Err q) ≡ mapped (λ t. true) (outcome n)
merged-answer n q e = sym (ap (λ (k : Answer ℕ). mapped (λ t. true) (outcome k)) e)

pub parted-answer : (s : Answer (ℕ × ℕ)) (q : Refusal) → s ≡ Err q → outcome (Err q) ≡ mapped (λ t. false) (outcome s)
parted-answer s q e = sym (ap (λ (k : Answer (ℕ × ℕ)). mapped (λ t. false) (outcome k)) e)

-- ── a leaf edited, or two made ──

module _ (m : List ℕ) (a : ℕ) (t : List ℕ) (n : Answer ℕ) (r : Answer Bool) (after : List ℕ) (k : outcome r ≡ mapped (λ x. true) (outcome n)) where
  edit-joined : (o : Outcome (List ℕ)) (j : Outcome (Bool × List ℕ)) → o ≡ value t → LeafWrote o m a n after → j ≡ value (true, leaf_put m a t) → Joined j m r after
  edit-joined o j e w f =
      joined-done j m r after true (leaf_put m a t) f (k ∙ ap (mapped (λ x. true)) w.answered ∙ ap (λ (p : Outcome (List ℕ)). mapped (λ x. true) (mapped (λ y. length y) p)) e)
      (w.memory ∙ ap (λ (p : Outcome (List ℕ)). kept m (mapped (λ y. leaf_put m a y) p)) e)

module _ (m : List ℕ) (a b : ℕ) (s : Answer (ℕ × ℕ)) (r : Answer Bool) (after : List ℕ) (k : outcome r ≡ mapped (λ x. false) (outcome s)) where
  halve-joined : (long : Bool) (x y : List ℕ) (o : Outcome (List ℕ × List ℕ)) (j : Outcome (Bool × List ℕ))
      → o ≡ ruled ((11, long) ∷ []) (x, y) → LeavesWrote o m a b s after → j ≡ ruled ((11, long) ∷ []) (false, leaf_put (leaf_put m a x) b y) → Joined j m r after
  unfolding ruled
  halve-joined true x y o j e w f =
      joined-not j m r after 11 f (k ∙ ap (mapped (λ z. false)) (w.answered ∙ ap (λ (p : Outcome (List ℕ × List ℕ)). mapped (λ t. (length t.0, length t.1)) p) e))
      (w.memory ∙ ap (λ (p : Outcome (List ℕ × List ℕ)). kept m (mapped (λ t. leaf_put (leaf_put m a t.0) b t.1) p)) e)
  halve-joined false x y o j e w f =
      joined-done j m r after false (leaf_put (leaf_put m a x) b y) f
      (k ∙ ap (mapped (λ z. false)) (w.answered ∙ ap (λ (p : Outcome (List ℕ × List ℕ)). mapped (λ t. (length t.0, length t.1)) p) e))
      (w.memory ∙ ap (λ (p : Outcome (List ℕ × List ℕ)). kept m (mapped (λ t. leaf_put (leaf_put m a t.0) b t.1) p)) e)

-- ── two leaves ──

pub two-lengths : (m : List ℕ) (a b : ℕ) → TwoLeaves m a b → (length (text_of m a) ≤ 512) × (length (text_of m b) ≤ 512)
two-lengths m a b two =
    let l = leaf-says m a two.left.leaf in
    let r = leaf-says m b two.right.leaf in
    (omega (arith, text-length m a two.left.leaf, l.2), omega (arith, text-length m b two.right.leaf, r.2))

module _ (m : List ℕ) (a b n : ℕ) (text : List ℕ) (two : TwoLeaves m a b) (e : n ≡ length (text_of m a)) (f : text ≡ text_of m b) where
  abbrev whole : List ℕ
  whole = text_of m a ++ text_of m b

  whole_length : length whole ≡ n + length text
  whole_length = length-append (text_of m a) (text_of m b) ∙ ap (λ (k : ℕ). k + length (text_of m b)) (sym e) ∙ ap (λ (l : List ℕ). n + length l) (sym f)

  pub text-merged : (k : Answer ℕ) (r : Answer Bool) (after : List ℕ) → n + length text ≤ 512 → outcome r ≡ mapped (λ x. true) (outcome k)
      → LeafWrote (leaf_edited m a n n text) m a k after → Joined (joined_text m a b whole) m r after
  text-merged k r after h p w =
      let small : length whole ≤ 512 = omega (arith, whole_length) in
      let there : leaf_edited m a n n text ≡ value whole =
      ap (λ (i : ℕ). leaf_edited m a i i text) e
      ∙ ap (leaf_edited m a (length (text_of m a)) (length (text_of m a))) f
      ∙ push-accepted m a two.left.leaf two.left.text (text_of m b) two.right.text (omega (arith, length-append (text_of m a) (text_of m b))) in
      edit-joined m a whole k r after p (leaf_edited m a n n text) (joined_text m a b whole) there w
      (ap (λ (c : Bool). cond c (value (true, leaf_put m a whole)) (parted m a b whole (half_split whole))) (le-leb (length whole) 512 small))

  pub text-parted : (k : Answer (ℕ × ℕ)) (r : Answer Bool) (after : List ℕ) → 512 < n + length text → outcome r ≡ mapped (λ x. false) (outcome k)
      → LeavesWrote (leaf_halved m a n text b) m a b k after → Joined (joined_text m a b whole) m r after
  text-parted k r after h p w =
      let large : 512 < length whole = omega (arith, whole_length) in
      let there = ap (λ (i : ℕ). leaf_halved m a i text b) e
      ∙ ap (λ (l : List ℕ). leaf_halved m a (length (text_of m a)) l b) f
      ∙ push-halved m a two.left.leaf two.left.text (text_of m b) b two.right.text (leaf-says m b two.right.leaf).0 (eqb-false a b two.apart) in
      halve-joined m a b k r after p (past (half_split whole) 512 || past (length whole - half_split whole) 512) (take (half_split whole) whole) (drop (half_split whole) whole) (leaf_halved m a n text b) (joined_text m a b whole) there w
      (ap (λ (c : Bool). cond c (value (true, leaf_put m a whole)) (parted m a b whole (half_split whole))) (lt-leb (length whole) 512 large))
