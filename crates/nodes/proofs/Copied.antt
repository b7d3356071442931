-- What the calls on leaves come to, from what `head_of` and the calls of the layers below answered.
use Rattle.std.specs.Prelude.{Err}
use mathlib.Core.Path.{◌≡◌, refl, sym, ap, subst, ◌∙◌}
use mathlib.Core.Bool.{true, false, not}
use mathlib.Core.List.{List, [], ◌∷◌}
use Prim.Native.Nat.{ℕ, ◌+◌, ◌≤◌, ◌<◌}
use native.Mathlib.Omega.{arith}
use lib.ListN.{length, take}
use lib.Seq.{length-take-le}
use borrow.Author.Tests.{lt-ltb, le-ltb, eq-eqb, ne_eqb}
use Rattle.plain.specs.Outcome.{Outcome, Outcome.value, Outcome.refused, ruled, past}
use Rattle.plain.proofs.Logic.{and_none}
use Rattle.plain.proofs.Outcome.{rule-passed, rule-applies, one-applies, one-passed}
use Rattle.answer.specs.Answers.{refusal_number, Answer}
use Rattle.answer.specs.declared.Refusal.{Refusal}
use Rattle.answer.specs.declared.Refusal.TheVariants.{Output}
use Rattle.leaf_bytes.specs.Leaf.{leaf_of, Leaf}
use Rattle.leaf_bytes.specs.Raw.{replacing}
use Rattle.leaf_bytes.proofs.Rules.{leaf-refused, leaf-same}
use Rattle.node_text.specs.Texts.{edited, inserted_split}
use Rattle.pool.specs.Slot.{slot_start, len_of, region_of}
use Rattle.pool.specs.Calls.{outside}
use Rattle.pool.proofs.Slots.{region-length}
use Rattle.nodes.specs.Node.{is_leaf, text_of}
use Rattle.nodes.specs.Calls.{text_read, leaf_replaced, leaf_edited, leaf_halved, LeafWrote, LeavesWrote}
use Rattle.nodes.proofs.Heads.{leaf-says}
use Rattle.nodes.proofs.Laid.{replacing-whole}

-- ── a text copied ──

module _ (m : List ℕ) (s n : ℕ) (out : List ℕ) where
  abbrev promised : Outcome (List ℕ)
  promised = ruled ((9, past n (length out)) ∷ []) (leaf_of (region_of m s) n)

  pub copy-short : length out < n → Leaf promised out (Err Output) out
  copy-short h = leaf-refused promised out (Err Output) 9 (one-applies 9 (past n (length out)) (leaf_of (region_of m s) n) (lt-ltb (length out) n h)) refl

  pub copy_done : n ≤ length out → n ≤ 512 → slot_start s + 640 ≤ length m → (t : List ℕ) → t ≡ take n (region_of m s) → (r : Answer ℕ) (after : List ℕ)
      → Leaf (replacing out 0 0 0 t) out r after → Leaf promised out r after
  copy_done h k i t e r after w =
      let size : length t ≡ n = ap length e ∙ length-take-le n (region_of m s) (omega (arith, region-length m s i)) in
      leaf-same (replacing out 0 0 0 t) out r promised after
      (replacing-whole out t (omega arith) (omega arith) ∙ ap (λ (l : List ℕ). value l) e ∙ sym (one-passed 9 (past n (length out)) (leaf_of (region_of m s) n) (le-ltb (length out) n h))) w

-- ── a leaf's text read ──

pub read_done : (m : List ℕ) (s n : ℕ) (out : List ℕ) (r : Answer ℕ) (after : List ℕ) → is_leaf m s ≡ true → len_of m s ≡ n
    → Leaf (ruled ((9, past n (length out)) ∷ []) (leaf_of (region_of m s) n)) out r after → Leaf (text_read m s (length out)) out r after
unfolding text_read
read_done m s n out r after e z w =
    let h = leaf-says m s e in
    let size : length (text_of m s) ≡ len_of m s = length-take-le (len_of m s) (region_of m s) (omega (arith, region-length m s h.0)) in
    leaf-same (ruled ((9, past n (length out)) ∷ []) (leaf_of (region_of m s) n)) out r (text_read m s (length out)) after
    (ap (λ (k : ℕ). ruled ((9, past k (length out)) ∷ []) (leaf_of (region_of m s) n)) (sym (size ∙ z))
    ∙ ap (λ (k : ℕ). ruled ((9, past (length (text_of m s)) (length out)) ∷ []) (leaf_of (region_of m s) k)) (sym z)
    ∙ sym (rule-passed 2 (not (is_leaf m s)) ((9, past (length (text_of m s)) (length out)) ∷ []) (text_of m s) (ap not e))) w

pub read-not : (m : List ℕ) (s : ℕ) (out : List ℕ) (q : Refusal) → is_leaf m s ≡ false → refusal_number q ≡ 2
    → Leaf (text_read m s (length out)) out (Err q) out
unfolding text_read
read-not m s out q e z =
    leaf-refused (text_read m s (length out)) out (Err q) 2
    (rule-applies 2 (not (is_leaf m s)) ((9, past (length (text_of m s)) (length out)) ∷ []) (text_of m s) (ap not e)) (ap (λ (k : ℕ). refused k) z)

-- ── a leaf edited ──

module _ (o : Outcome (List ℕ)) (m : List ℕ) (s : ℕ) where
  pub wrote_as : (p : Outcome (List ℕ)) (r : Answer ℕ) (after : List ℕ) → o ≡ p → LeafWrote p m s r after → LeafWrote o m s r after
  wrote_as p r after e w = subst (λ (q : Outcome (List ℕ)). LeafWrote q m s r after) (sym e) w

  pub wrote-not : (q : Refusal) → o ≡ refused (refusal_number q) → LeafWrote o m s (Err q) m
  wrote-not q e = wrote_as (refused (refusal_number q)) (Err q) m e (record { answered = refl; memory = refl })

module _ (m : List ℕ) (s i e : ℕ) (piece : List ℕ) where
  pub replace-is : (n : ℕ) → is_leaf m s ≡ true → len_of m s ≡ n → leaf_replaced m s i e piece ≡ replacing (region_of m s) n i e piece
  unfolding leaf_replaced
  replace-is n h z = rw h (ap (λ (k : ℕ). replacing (region_of m s) k i e piece) z)

  pub replace-none : is_leaf m s ≡ false → leaf_replaced m s i e piece ≡ refused 2
  unfolding leaf_replaced
  replace-none h = rw h

  pub edit-is : (n : ℕ) → is_leaf m s ≡ true → len_of m s ≡ n → leaf_edited m s i e piece ≡ edited (region_of m s) n i e piece
  unfolding leaf_edited
  edit-is n h z = rw h (ap (λ (k : ℕ). edited (region_of m s) k i e piece) z)

  pub edit-none : is_leaf m s ≡ false → leaf_edited m s i e piece ≡ refused 2
  unfolding leaf_edited
  edit-none h = rw h

-- ── a leaf halved ──

module _ (m : List ℕ) (s i : ℕ) (piece : List ℕ) (right : ℕ) where
  pub halve-is : (n : ℕ) → is_leaf m s ≡ true → len_of m s ≡ n → outside m right ≡ false → (s ≡ right → ⊥)
      → leaf_halved m s i piece right ≡ inserted_split (region_of m s) n i piece (region_of m right)
  unfolding leaf_halved
  halve-is n h z o d = rw (h, o, ne_eqb s right d) (ap (λ (k : ℕ). inserted_split (region_of m s) k i piece (region_of m right)) z)

  pub halve-same : s ≡ right → leaf_halved m s i piece right ≡ refused 2
  unfolding leaf_halved
  halve-same e = rw (eq-eqb s right e, and_none (not (outside m right)), and_none (is_leaf m s))

  pub halve-outside : outside m right ≡ true → leaf_halved m s i piece right ≡ refused 2
  unfolding leaf_halved
  halve-outside o = rw (o, and_none (is_leaf m s))

  pub halve-none : is_leaf m s ≡ false → leaf_halved m s i piece right ≡ refused 2
  unfolding leaf_halved
  halve-none h = rw h

  pub halve-refused : (q : Refusal) → leaf_halved m s i piece right ≡ refused 2 → refusal_number q ≡ 2
      → LeavesWrote (leaf_halved m s i piece right) m s right (Err q) m
  halve-refused q h z =
      subst (λ (o : Outcome (List ℕ × List ℕ)). LeavesWrote o m s right (Err q) m) (sym h) (record { answered = ap (λ (k : ℕ). refused k) z; memory = refl })

  pub halve-leaf : (n : ℕ) (r : Answer (ℕ × ℕ)) (after : List ℕ) → is_leaf m s ≡ true → len_of m s ≡ n → outside m right ≡ false → (s ≡ right → ⊥)
      → LeavesWrote (inserted_split (region_of m s) n i piece (region_of m right)) m s right r after → LeavesWrote (leaf_halved m s i piece right) m s right r after
  halve-leaf n r after h z o d w = subst (λ (p : Outcome (List ℕ × List ℕ)). LeavesWrote p m s right r after) (sym (halve-is n h z o d)) w
