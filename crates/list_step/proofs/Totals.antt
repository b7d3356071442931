-- The counts of a family of children, each fine and with whole seams: they add up to those of the joined text, and fit 32 bits where its bytes do.
use mathlib.Core.Path.{◌≡◌, refl, sym, ap, ◌∙◌}
use mathlib.Core.Bool.{Bool, true, false, not, ◌&&◌}
use mathlib.Core.List.{List, [], ◌∷◌, ◌++◌, map}
use Prim.Native.Nat.{ℕ, zero, suc, ◌+◌, ◌≤◌, ◌<◌}
use native.Mathlib.Omega.{arith}
use lib.Dec.{eqb}
use lib.ListN.{length, take, drop, get_or, length-append}
use borrow.Author.Tests.{eqb-true, eq-eqb, le-ltb, not-true}
use Rattle.plain.specs.Utf8.{valid_utf8, decode}
use Rattle.plain.specs.Count.{count_if, breaks, cr_last, lf_first}
use Rattle.plain.specs.Place.{is_start, is_pair, bytes}
use Rattle.plain.specs.Chars.{encode}
use Rattle.plain.specs.Outcome.{past}
use Rattle.plain.proofs.Logic.{and_left, and_right, and_none, or-none}
use Rattle.plain.proofs.Text.{chars-encode}
use Rattle.text_info.specs.declared.TextInfo.{TextInfo}
use Rattle.text_info.specs.declared.TextSum.{TextSum}
use Rattle.text_info.specs.Info.{zeros}
use Rattle.text_info.proofs.Counts.{count-le, breaks-le}
use Rattle.pool.specs.declared.Kid.{Kid}
use Rattle.pool.specs.Slot.{slot_start, no_kid, Fits}
use Rattle.child_search.specs.Sought.{plus_info, sum_from}
use Rattle.nodes.specs.Node.{too_wide, narrowed, total_of}
use Rattle.nodes.proofs.Heads.{leaf-says, list-says}
use Rattle.tree.specs.Tree.{join_over, every, seamless, sum_of, tells, told_right, least_at, sound, plus_sum}
use Rattle.tree.specs.Kids.{below, fine}
use Rattle.tree.proofs.Lists.{join-none, join-cons, join-at, every-head, every-tail, every-at}
use Rattle.tree.proofs.Seams.{lf-none, lf-append, seam-right}
use Rattle.tree.proofs.Counts.{sum_is, sum-nil, counts-add, bytes-valid, breaks-valid}
use Rattle.tree.proofs.Sound.{child-sound, join-valid, valid-below, filled-below, leaf-sound, list-sound}

-- ── counts told ──

pub tells_is : (i : TextInfo) (s : TextSum) → tells i s ≡ true → (i.bytes ≡ s.bytes) × (i.chars ≡ s.chars) × (i.utf16_surrogates ≡ s.utf16_surrogates) × (i.line_breaks ≡ s.line_breaks)
tells_is i s e =
    let a = eqb i.bytes s.bytes in
    let b = eqb i.chars s.chars in
    let c = eqb i.utf16_surrogates s.utf16_surrogates in
    let d = eqb i.line_breaks s.line_breaks in
    let r = and_right a (b && (c && d)) e in
    let q = and_right b (c && d) r in
    (eqb-true i.bytes s.bytes (and_left a (b && (c && d)) e), eqb-true i.chars s.chars (and_left b (c && d) r), eqb-true i.utf16_surrogates s.utf16_surrogates (and_left c d q), eqb-true i.line_breaks s.line_breaks (and_right c d q))

pub tells-self : (s : TextSum) → tells (narrowed s) s ≡ true
tells-self s =
    rw (eq-eqb s.bytes s.bytes refl, eq-eqb s.chars s.chars refl, eq-eqb s.utf16_surrogates s.utf16_surrogates refl, eq-eqb s.line_breaks s.line_breaks refl)

-- ── counts of a text ──

pub record Small (t : List ℕ) : Type 0 where
  pub b : bytes (decode t) ≡ length t
  pub c : length (decode t) ≤ length t
  pub u : count_if is_pair (decode t) ≤ length t
  pub l : breaks (decode t) ≤ length t

longer : (cs : List ℕ) → length cs ≤ bytes cs
longer cs = omega (arith, chars-encode cs, count-le is_start (encode cs))

pub counts-small : (t : List ℕ) → valid_utf8 t ≡ true → Small t
counts-small t v =
    let b = bytes-valid t v in
    let c : length (decode t) ≤ length t = omega (arith, longer (decode t)) in
    record { b = b; c = c; u = omega (arith, count-le is_pair (decode t)); l = omega (arith, breaks-valid t v, breaks-le t) }

pub not_wide : (t : List ℕ) → valid_utf8 t ≡ true → length t < 4294967296 → too_wide (sum_of (decode t)) ≡ false
not_wide t v h =
    let s = counts-small t v in
    or-none (past (bytes (decode t)) 4294967295) _ (le-ltb 4294967295 (bytes (decode t)) (omega (arith, s.b)))
    (or-none (past (length (decode t)) 4294967295) _ (le-ltb 4294967295 (length (decode t)) (omega (arith, s.c)))
    (or-none (past (count_if is_pair (decode t)) 4294967295) _ (le-ltb 4294967295 (count_if is_pair (decode t)) (omega (arith, s.u)))
    (le-ltb 4294967295 (breaks (decode t)) (omega (arith, s.l)))))

-- ── a family of height h ──

module _ (m : List ℕ) (h : ℕ) where
  abbrev text : List Kid → List ℕ
  text ks = join_over (below m h) ks

  pub filled : (k : Kid) → fine m h k ≡ true → 1 ≤ length (below m h k)
  filled k e = filled-below m h k.slot (child-sound m h k e)

  valid : (k : Kid) → fine m h k ≡ true → valid_utf8 (below m h k) ≡ true
  valid k e = valid-below m (least_at h) h k.slot (child-sound m h k e)

  pub all_valid : (ks : List Kid) → every (fine m h) ks ≡ true → valid_utf8 (text ks) ≡ true
  all_valid ks e = join-valid (below m h) (fine m h) valid ks e

  told : (k : Kid) → fine m h k ≡ true → tells k.info (sum_of (decode (below m h k))) ≡ true
  unfolding told_right
  told k e = and_right (sound m (least_at h) h k.slot) (told_right m h k) e

  first-seam : (k : Kid) (ks : List Kid) → every (fine m h) ks ≡ true → seamless (map (below m h) (k ∷ ks)) ≡ true → (cr_last (below m h k) && lf_first (text ks)) ≡ false
  unfolding seamless
  first-seam k [] e s =
      ap (λ (l : List ℕ). cr_last (below m h k) && lf_first l) (join-none (below m h))
      ∙ ap (λ (b : Bool). cr_last (below m h k) && b) lf-none
      ∙ and_none (cr_last (below m h k))
  first-seam k (l ∷ ls) e s =
      ap (λ (x : List ℕ). cr_last (below m h k) && lf_first x) (join-cons (below m h) l ls)
      ∙ ap (λ (b : Bool). cr_last (below m h k) && b) (lf-append (below m h l) (text ls) (filled l (every-head (fine m h) l ls e)))
      ∙ not-true (cr_last (below m h k) && lf_first (below m h l)) (and_left (not (cr_last (below m h k) && lf_first (below m h l))) (seamless (map (below m h) (l ∷ ls))) s)

  totals : (s : TextSum) (ks : List Kid) → every (fine m h) ks ≡ true → seamless (map (below m h) ks) ≡ true → sum_from s ks ≡ plus_sum s (sum_of (decode (text ks)))
  unfolding sum_from
  totals s [] e z =
      sum_is s (plus_sum s zeros) (omega arith) (omega arith) (omega arith) (omega arith)
      ∙ ap (plus_sum s) (sym (ap (λ (t : List ℕ). sum_of (decode t)) (join-none (below m h)) ∙ sum-nil))
  totals s (k ∷ ks) e z =
      let a = below m h k in
      let first = every-head (fine m h) k ks e in
      let rest = every-tail (fine m h) k ks e in
      let i = tells_is k.info (sum_of (decode a)) (told k first) in
      let whole : sum_of (decode (text (k ∷ ks))) ≡ plus_sum (sum_of (decode a)) (sum_of (decode (text ks))) =
      ap (λ (t : List ℕ). sum_of (decode t)) (join-cons (below m h) k ks) ∙ counts-add a (text ks) (valid k first) (all_valid ks rest) (first-seam k ks rest z) in
      totals (plus_info s k.info) ks rest (seam-right (below m h) (fine m h) filled (k ∷ []) ks z)
      ∙ sum_is (plus_sum (plus_info s k.info) (sum_of (decode (text ks)))) (plus_sum s (sum_of (decode (text (k ∷ ks)))))
      (omega (arith, ap (λ (x : TextSum). x.bytes) whole, i.0))
      (omega (arith, ap (λ (x : TextSum). x.chars) whole, i.1))
      (omega (arith, ap (λ (x : TextSum). x.utf16_surrogates) whole, i.2))
      (omega (arith, ap (λ (x : TextSum). x.line_breaks) whole, i.3))

  -- THEOREM: the children's counts add up to the counts of their text
  pub total-is : (ks : List Kid) → every (fine m h) ks ≡ true → seamless (map (below m h) ks) ≡ true → total_of ks ≡ sum_of (decode (text ks))
  total-is ks e z =
      totals zeros ks e z ∙ sum_is (plus_sum zeros (sum_of (decode (text ks)))) (sum_of (decode (text ks))) (omega arith) (omega arith) (omega arith) (omega arith)

  -- the same of one child, whatever its size
  pub one-total : (k : Kid) → told_right m h k ≡ true → total_of (k ∷ []) ≡ sum_of (decode (below m h k))
  unfolding sum_from told_right
  one-total k e =
      let i = tells_is k.info (sum_of (decode (below m h k))) e in
      sum_is (plus_info zeros k.info) (sum_of (decode (below m h k))) (omega (arith, i.0)) (omega (arith, i.1)) (omega (arith, i.2)) (omega (arith, i.3))

  -- ── 32 bits ──

  -- a sound node's slot lies in the memory, and so does a child's
  pub node-there : (least j s : ℕ) → sound m least j s ≡ true → slot_start s + 640 ≤ length m
  node-there least zero s e = (leaf-says m s (leaf-sound m least s e).leaf).0
  node-there least (suc j) s e = (list-says m s (list-sound m least j s e).list).0

  pub child-there : (k : Kid) → fine m h k ≡ true → slot_start k.slot + 640 ≤ length m
  child-there k e = node-there (least_at h) h k.slot (child-sound m h k e)

  pub kid-fits : (k : Kid) → told_right m h k ≡ true → valid_utf8 (below m h k) ≡ true → length (below m h k) < 4294967296 → k.slot < 4294967296 → Fits k
  unfolding told_right
  kid-fits k e v l s =
      let i = tells_is k.info (sum_of (decode (below m h k))) e in
      let t = counts-small (below m h k) v in
      record { slot = s; bytes = omega (arith, i.0, t.b); chars = omega (arith, i.1, t.c); surrogates = omega (arith, i.2, t.u); breaks = omega (arith, i.3, t.l) }

  pub all_fit : (ks : List Kid) → every (fine m h) ks ≡ true → length (text ks) < 4294967296 → length m < slot_start 4294967296 + 640 → (i : ℕ) → i < length ks → Fits (get_or ks i no_kid)
  all_fit ks e l s i q =
      let k = get_or ks i no_kid in
      let f = every-at (fine m h) ks i no_kid q e in
      let a = below m h k in
      let b = text (drop (suc i) ks) in
      let z = ap length (join-at (below m h) ks i no_kid q) ∙ length-append (text (take i ks)) (a ++ b) in
      kid-fits k (and_right (sound m (least_at h) h k.slot) (told_right m h k) f) (valid k f) (omega (arith, z, length-append a b)) (omega (arith, child-there k f))
