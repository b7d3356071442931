-- The turns and the ends of loops over windows, whether chars of four bytes are allowed or not.
use mathlib.Core.Path.{◌≡◌, refl, sym, ap, ◌∙◌}
use mathlib.Core.Bool.{Bool, true, false, ◌||◌, or-true, or_assoc}
use mathlib.Core.List.{List, [], ◌∷◌}
use Prim.Native.Nat.{ℕ, zero, suc, ◌+◌, ◌-◌, ◌≤◌, ◌<◌}
use native.Mathlib.Omega.{arith}
use native.Mathlib.Numerals.{add-one}
use lib.ListN.{length, get_or, drop, drop_of_length-le}
use lib.Seq.{drop-cons}
use Rattle.plain.proofs.Logic.{cut, or_left}
use Rattle.utf8.specs.Window.{owed, bad_at, scan, wrong_at, scan_at, Parted}

module _ (far : Bool) where
  scan-turn : (s : List ℕ) (i : ℕ) → 3 ≤ i → i < length s → scan_at far s i ≡ (wrong_at far s i || scan_at far s (i + 1))
  unfolding scan
  scan-turn s i h k =
      let a : i - 2 ≡ i + 1 - 3 = omega arith in
      let b : i - 1 ≡ i + 1 - 2 = omega arith in
      let d : i ≡ i + 1 - 1 = omega arith in
      let x : ℕ = get_or s (i - 3) 0 in
      let y : ℕ = get_or s (i - 2) 0 in
      let z : ℕ = get_or s (i - 1) 0 in
      ap (scan far x y z) (drop-cons s i 0 k)
      ∙ (λ j. bad_at far x y z (get_or s i 0) || scan far (get_or s (a j) 0) (get_or s (b j) 0) (get_or s (d j) 0) (drop (sym (add-one i) j) s))

  scan-end : (s : List ℕ) → owed far (get_or s (length s - 3) 0) (get_or s (length s - 2) 0) (get_or s (length s - 1) 0) ≡ scan_at far s (length s)
  unfolding scan
  scan-end s = ap (scan far (get_or s (length s - 3) 0) (get_or s (length s - 2) 0) (get_or s (length s - 1) 0)) (sym (drop_of_length-le s {i = length s} (omega arith)))

  pub scan-head : (s : List ℕ) → 3 ≤ length s
      → (((bad_at far 0 0 0 (get_or s 0 0) || bad_at far 0 0 (get_or s 0 0) (get_or s 1 0)) || bad_at far 0 (get_or s 0 0) (get_or s 1 0) (get_or s 2 0)) || scan far (get_or s 0 0) (get_or s 1 0) (get_or s 2 0) (drop 3 s)) ≡ scan far 0 0 0 s
  unfolding scan
  scan-head [] h = absurd (omega arith)
  scan-head (a ∷ []) h = absurd (omega arith)
  scan-head (a ∷ b ∷ []) h = absurd (omega arith)
  scan-head (a ∷ b ∷ c ∷ s) h = or_assoc (bad_at far 0 0 0 a || bad_at far 0 0 a b) (bad_at far 0 a b c) (scan far a b c s) ∙ or_assoc (bad_at far 0 0 0 a) (bad_at far 0 0 a b) (bad_at far 0 a b c || scan far a b c s)

  -- a part of no window, and one window more
  pub part_none : (s : List ℕ) (a : ℕ) → Parted far s a a false
  part_none s a = record { scanned = refl; each = λ k h l e. absurd (omega arith) }

  pub part-more : (s : List ℕ) (a i : ℕ) (w v : Bool) → 3 ≤ a → a ≤ i → i < length s → Parted far s a i w → v ≡ wrong_at far s i → Parted far s a (i + 1) (w || v)
  part-more s a i w v h k l p e = record {
    scanned =
        ap (λ (t : Bool). (w || t) || scan_at far s (i + 1)) e ∙ or_assoc w (wrong_at far s i) (scan_at far s (i + 1))
        ∙ ap (λ (t : Bool). w || t) (sym (scan-turn s i (omega arith) l)) ∙ p.scanned;
    each = λ j g m q. cut j i (λ n. or_left w v (p.each j g n q)) (λ n.
        let same : j ≡ i = omega arith in
        ap (λ (t : Bool). w || t) (e ∙ sym (ap (wrong_at far s) same) ∙ q) ∙ or-true w);
  }

  -- windows that were looked at may be looked at again
  again : (s : List ℕ) (a e : ℕ) (p : Bool) → 3 ≤ a → e ≤ length s → Parted far s a e p → (d j : ℕ) → a ≤ j → e ≡ j + d → (p || scan_at far s j) ≡ (p || scan_at far s e)
  again s a e p h k f zero j g q = let same : j ≡ e = omega arith in ap (λ (i : ℕ). p || scan_at far s i) same
  again s a e p h k f (suc d) j g q = go (again s a e p h k f d (j + 1) (omega arith) (omega arith)) (wrong_at far s j) refl
    where
      go : (p || scan_at far s (j + 1)) ≡ (p || scan_at far s e) → (t : Bool) → wrong_at far s j ≡ t → (p || scan_at far s j) ≡ (p || scan_at far s e)
      go next true w = let y = f.each j g (omega arith) w in ap (λ (t : Bool). t || scan_at far s j) y ∙ sym (ap (λ (t : Bool). t || scan_at far s e) y)
      go next false w = ap (λ (t : Bool). p || t) (scan-turn s j (omega arith) (omega arith) ∙ ap (λ (t : Bool). t || scan_at far s (j + 1)) w) ∙ next

  -- two parts that lie on one another, and both ends of the text
  pub scan-whole : (s : List ℕ) (e j : ℕ) (h p q u : Bool) → e ≤ length s → 3 ≤ j → j ≤ e
      → (h || scan_at far s 3) ≡ scan far 0 0 0 s → Parted far s 3 e p → Parted far s j (length s) q
      → u ≡ owed far (get_or s (length s - 3) 0) (get_or s (length s - 2) 0) (get_or s (length s - 1) 0)
      → (((h || p) || q) || u) ≡ scan far 0 0 0 s
  scan-whole s e j h p q u k l m begun first last done =
      or_assoc (h || p) q u ∙ ap (λ (t : Bool). (h || p) || (q || t)) (done ∙ scan-end s) ∙ ap (λ (t : Bool). (h || p) || t) last.scanned
      ∙ or_assoc h p (scan_at far s j) ∙ ap (λ (t : Bool). h || t) (again s 3 e p (omega arith) k first (e - j) j l (omega arith) ∙ first.scanned) ∙ begun
