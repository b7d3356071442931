-- The edits of `pack_text`: each is accepted, and what they leave is `packed`.
use Rattle.answer.specs.Answers.{Answer, outcome}
use Rattle.std.specs.Prelude.{Ok, Err}
use mathlib.Core.Path.{◌≡◌, refl, sym, ap, subst, ◌∙◌}
use mathlib.Core.Bool.{Bool, true, false}
use mathlib.Core.List.{List, [], ◌++◌, append-nil}
use Prim.Native.Nat.{ℕ, ◌+◌, ◌-◌, ◌≤◌, ◌<◌}
use native.Mathlib.Omega.{arith}
use lib.ListN.{length, take, drop, drop_of_length-le}
use lib.Seq.{length-take-le, take_all}
use borrow.Author.Tests.{le-leb, lt-leb}
use Rattle.plain.specs.Utf8.{valid_utf8}
use Rattle.plain.specs.Place.{is_boundary}
use Rattle.plain.specs.Edit.{replaced}
use Rattle.plain.specs.Outcome.{Outcome, Outcome.value, kept, mapped}
use Rattle.plain.proofs.Place.{boundary-0, boundary_end}
use Rattle.answer.specs.declared.Refusal.{Refusal}
use Rattle.answer.proofs.Opened.{never-refused}
use Rattle.crlf.specs.Break.{at_index, prev_break}
use Rattle.crlf.proofs.Laws.{index-value}
use Rattle.crlf.proofs.Breaks.{break-boundary}
use Rattle.node_text.proofs.Texts.{edited-accepted}
use Rattle.pool.specs.Slot.{len_of, region_of}
use Rattle.pool.proofs.Slots.{region-length}
use Rattle.nodes.specs.Node.{text_of, leaf_put}
use Rattle.nodes.specs.Calls.{leaf_edited, LeafWrote}
use Rattle.child_info.specs.Leaves.{LeafText, TwoLeaves}
use Rattle.compact.specs.Pack.{fits, moved, packed}
use Rattle.nodes.proofs.Heads.{leaf-says}
use Rattle.child_info.proofs.TextRead.{text-size}
use Rattle.compact.proofs.Packed.{packed-fits, packed-some, packed-full, Moved, moved-is, between-text, between-leaf}

-- ── a leaf edited ──

-- an edit between the chars of a leaf that leaves no more than 512 bytes is accepted
edit-taken : (m : List ℕ) (s i e : ℕ) (piece : List ℕ) → LeafText m s → i ≤ e → is_boundary (text_of m s) i ≡ true → is_boundary (text_of m s) e ≡ true
    → valid_utf8 piece ≡ true → i + length piece + (length (text_of m s) - e) ≤ 512 → leaf_edited m s i e piece ≡ value (replaced i e piece (text_of m s))
unfolding leaf_edited
edit-taken m s i e piece t h b c v n =
    let f = leaf-says m s t.leaf in
    let size = (text-size m s t.leaf).0 in
    let room = region-length m s f.0 in
    rw t.leaf
    (edited-accepted (region_of m s) (len_of m s) i e piece
    (record { small = f.2; room = omega arith; order = h; start = b; end = c; leaf-valid = t.text; piece-valid = v }) (omega arith) (omega arith))

edit-done : (m : List ℕ) (s i e : ℕ) (piece : List ℕ) (q : Answer ℕ) (after : List ℕ) → LeafText m s → i ≤ e → is_boundary (text_of m s) i ≡ true → is_boundary (text_of m s) e ≡ true
    → valid_utf8 piece ≡ true → i + length piece + (length (text_of m s) - e) ≤ 512 → LeafWrote (leaf_edited m s i e piece) m s q after
    → (outcome q ≡ value (length (replaced i e piece (text_of m s)))) × (after ≡ leaf_put m s (replaced i e piece (text_of m s)))
edit-done m s i e piece q after t h b c v n w =
    let z = edit-taken m s i e piece t h b c v n in
    (w.answered ∙ ap (mapped (λ (x : List ℕ). length x)) z, w.memory ∙ ap (λ (o : Outcome (List ℕ)). kept m (mapped (λ (x : List ℕ). leaf_put m s x) o)) z)

-- a piece behind a text
behind : (a piece : List ℕ) (n : ℕ) → n ≡ length a → replaced n n piece a ≡ a ++ piece
behind a piece n e =
    ap (λ (x : List ℕ). x ++ (piece ++ drop n a)) (take_all n a (omega arith))
    ∙ ap (λ (x : List ℕ). a ++ (piece ++ x)) (drop_of_length-le a {i = n} (omega arith))
    ∙ ap (λ (x : List ℕ). a ++ x) (append-nil piece)

push-done : (m : List ℕ) (s n : ℕ) (piece : List ℕ) (q : Answer ℕ) (after : List ℕ) → LeafText m s → n ≡ length (text_of m s) → valid_utf8 piece ≡ true → n + length piece ≤ 512
    → LeafWrote (leaf_edited m s n n piece) m s q after → (outcome q ≡ value (length (replaced n n piece (text_of m s)))) × (after ≡ leaf_put m s (text_of m s ++ piece))
push-done m s n piece q after t e v h w =
    let b : is_boundary (text_of m s) n ≡ true = ap (is_boundary (text_of m s)) e ∙ boundary_end (text_of m s) in
    let d = edit-done m s n n piece q after t (omega arith) b b v (omega arith) w in
    (d.0, d.1 ∙ ap (λ (x : List ℕ). leaf_put m s x) (behind (text_of m s) piece n e))

-- ── the three cases ──

module _ (m : List ℕ) (l r : ℕ) (t : TwoLeaves m l r) (n : ℕ) (x : List ℕ) (len : n ≡ length (text_of m l)) (text : x ≡ text_of m r) where
  abbrev a : List ℕ
  a = text_of m l

  abbrev b : List ℕ
  b = text_of m r

  fits-no : 512 < n + length x → fits a b ≡ false
  fits-no h = lt-leb (length a + length b) 512 (omega (arith, ap length text))

  valid-x : valid_utf8 x ≡ true
  valid-x = ap valid_utf8 text ∙ t.right.text

  -- all of the right text
  pub all-edit : n + length x ≤ 512 → (q : Answer ℕ) (z : Answer Bool) (after : List ℕ) → LeafWrote (leaf_edited m l n n x) m l q after → outcome z ≡ mapped (λ y. true) (outcome q)
      → (outcome z ≡ value (fits a b)) × (after ≡ packed m l r)
  all-edit h q z after w told =
      let f = le-leb (length a + length b) 512 (omega (arith, ap length text)) in
      let d = push-done m l n x q after t.left len valid-x h w in (
        told ∙ ap (mapped (λ y. true)) d.0 ∙ ap (λ (y : Bool). value y) (sym f),
        d.1 ∙ ap (λ (y : List ℕ). leaf_put m l (a ++ y)) text ∙ sym (packed-fits m l r f),
      )

  -- nothing of it
  pub no-edit : 512 < n + length x → 512 ≤ n → (outcome (Ok false) ≡ value (fits a b)) × (m ≡ packed m l r)
  no-edit h k = (ap (λ (y : Bool). value y) (sym (fits-no h)), sym (packed-full m l r (fits-no h) (omega arith)))

  -- a part of it
  pub part-told : 512 < n + length x → (q : Answer ℕ) (z : Answer Bool) → outcome q ≡ value (length (drop (moved a b) b)) → outcome z ≡ mapped (λ y. false) (outcome q) → outcome z ≡ value (fits a b)
  part-told h q z is told = told ∙ ap (mapped (λ y. false)) is ∙ ap (λ (y : Bool). value y) (sym (fits-no h))

  pub cut_in : 512 < n + length x → n < 512 → 512 - n ≤ length x
  cut_in h k = omega arith

  module _ (h : 512 < n + length x) (g : n < 512) (z : Answer ℕ) (k : ℕ) (promise : outcome z ≡ at_index x (512 - n) (prev_break x (512 - n))) (is : z ≡ Ok k) where
    cut-is : k ≡ moved a b
    cut-is =
        index-value x (512 - n) z (prev_break x (512 - n)) promise k is
        ∙ ap (λ (y : List ℕ). prev_break y (512 - n)) text
        ∙ ap (λ (j : ℕ). prev_break b (512 - j)) len

    cut_moved : Moved a b k
    cut_moved = subst (λ (j : ℕ). Moved a b j) (sym cut-is) (moved-is a b t.right.text (fits-no h) (omega arith))

    pub cut_short : k ≤ length x
    cut_short = omega (arith, cut_moved.short, ap length text)

    pub cut-length : k ≡ length (take k x)
    cut-length = sym (length-take-le k x cut_short)

    first-edit : (q : Answer ℕ) (m₁ : List ℕ) → LeafWrote (leaf_edited m l n n (take k x)) m l q m₁
        → (outcome q ≡ value (length (replaced n n (take k x) a))) × (m₁ ≡ leaf_put m l (a ++ take k b))
    first-edit q m₁ w =
        let d = push-done m l n (take k x) q m₁ t.left len (ap (λ (y : List ℕ). valid_utf8 (take k y)) text ∙ cut_moved.left) (omega (arith, cut-length, cut_moved.room)) w in
        (d.0, d.1 ∙ ap (λ (y : List ℕ). leaf_put m l (a ++ take k y)) text)

    pub first-never : {X : Type 0} (q : Answer ℕ) (m₁ : List ℕ) → LeafWrote (leaf_edited m l n n (take k x)) m l q m₁ → (f : Refusal) → q ≡ Err f → X
    first-never {X} q m₁ w f e = never-refused f q (length (replaced n n (take k x) a)) (first-edit q m₁ w).0 e

    second-edit : (m₁ : List ℕ) → m₁ ≡ leaf_put m l (a ++ take k b) → (q : Answer ℕ) (m₂ : List ℕ) → LeafWrote (leaf_edited m₁ r 0 k []) m₁ r q m₂
        → (outcome q ≡ value (length (drop k b))) × (m₂ ≡ leaf_put m₁ r (drop k b))
    second-edit m₁ e q m₂ w =
        let f = fits-no h in
        let leaf : LeafText m₁ r = subst (λ (y : List ℕ). LeafText y r) (sym e) (between-leaf m l r t k f cut_moved) in
        let same : text_of m₁ r ≡ b = ap (λ (y : List ℕ). text_of y r) e ∙ between-text m l r t k f cut_moved in
        let brk : is_boundary (text_of m₁ r) k ≡ true = ap (λ (y : List ℕ). is_boundary y k) same ∙ break-boundary b k cut_moved.short cut_moved.breaks in
        let d = edit-done m₁ r 0 k [] q m₂ leaf (omega arith) (boundary-0 (text_of m₁ r) 0 refl) brk (unfold valid_utf8 in refl) (omega (arith, (text-size m₁ r leaf.leaf).1)) w in
        (d.0 ∙ ap (λ (y : List ℕ). value (length (drop k y))) same, d.1 ∙ ap (λ (y : List ℕ). leaf_put m₁ r (drop k y)) same)

    pub some-edit : (q₁ q₂ : Answer ℕ) (m₁ m₂ : List ℕ) → LeafWrote (leaf_edited m l n n (take k x)) m l q₁ m₁ → LeafWrote (leaf_edited m₁ r 0 k []) m₁ r q₂ m₂
        → (outcome q₂ ≡ value (length (drop (moved a b) b))) × (m₂ ≡ packed m l r)
    some-edit q₁ q₂ m₁ m₂ u v =
        let e = (first-edit q₁ m₁ u).1 in
        let d = second-edit m₁ e q₂ m₂ v in (
          d.0 ∙ ap (λ (j : ℕ). value (length (drop j b))) cut-is,
          d.1
              ∙ ap (λ (y : List ℕ). leaf_put y r (drop k b)) e
              ∙ ap (λ (j : ℕ). leaf_put (leaf_put m l (a ++ take j b)) r (drop j b)) cut-is
              ∙ sym (packed-some m l r (fits-no h) (omega arith)),
        )
