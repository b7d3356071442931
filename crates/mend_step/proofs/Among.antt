-- What an edit made of a child, among its siblings: they are fine together, with whole seams between them. And one edit behind another. No call
-- needs it; the laws of the steps do.
use mathlib.Core.Path.{◌≡◌, ap, ◌∙◌}
use mathlib.Core.Bool.{true, false, ◌&&◌}
use mathlib.Core.List.{List, ◌++◌, map}
use Prim.Native.Nat.{ℕ, ◌+◌, ◌≤◌}
use native.Mathlib.Omega.{arith}
use lib.ListN.{length}
use Rattle.plain.specs.Count.{cr_last, lf_first}
use Rattle.pool.specs.declared.Kid.{Kid}
use Rattle.tree.specs.Tree.{every, seamless}
use Rattle.tree.specs.Kids.{below, fine}
use Rattle.tree.proofs.Lists.{join-append, every_append}
use Rattle.tree.proofs.Frame.{KeptAll}
use Rattle.edit_steps.specs.Made.{Made, Made.same, Made.split, Made.small, Made.apart}
use Rattle.edit_steps.specs.Became.{uses_all, bytes_all, free, Slotted, Became}
use Rattle.edit_steps.specs.Grown.{Grown, MadeIs}
use Rattle.edit_steps.proofs.Rules.{became-as, same_length, beside, among, then}
use Rattle.list_step.proofs.Totals.{filled}
use Rattle.mend_step.proofs.Pairs.{seam-append}

-- ── among siblings ──

-- siblings of height g around what uses the slots u and becomes the text t
pub record Amid (m : List ℕ) (n g : ℕ) (u : ℕ → ℕ) (pre post : List Kid) (t : List ℕ) : Type 0 where
  pub slotted : Slotted m n
  pub apart : (z : ℕ) → uses_all m g pre z + u z + uses_all m g post z + free m n z ≤ 1
  pub before : every (fine m g) pre ≡ true
  pub behind : every (fine m g) post ≡ true
  pub seams-before : seamless (map (below m g) pre) ≡ true
  pub seams-behind : seamless (map (below m g) post) ≡ true
  pub seam-left : (cr_last (bytes_all m g pre) && lf_first (t ++ bytes_all m g post)) ≡ false
  pub seam-right : (cr_last t && lf_first (bytes_all m g post)) ≡ false

module _ (m l : List ℕ) (n d g : ℕ) (u : ℕ → ℕ) (pre post outs : List Kid) (t : List ℕ) (r : Amid m n g u pre post t) where
  pub became-all : Became m l n d u g outs t → Became m l n d (λ z. uses_all m g pre z + (u z + uses_all m g post z)) g (pre ++ (outs ++ post)) (bytes_all m g pre ++ (t ++ bytes_all m g post))
  became-all b = among m l n d u g outs t b r.slotted pre post r.apart

  module _ (w : Grown m l n d u g outs t) where
    abbrev long : length l ≡ length m
    long = same_length m l n d u g outs t w.became r.slotted

    before : KeptAll m l long g pre
    before = beside m l n d u g outs t w.became r.slotted g pre (λ z. omega (arith, r.apart z))

    behind : KeptAll m l long g post
    behind = beside m l n d u g outs t w.became r.slotted g post (λ z. omega (arith, r.apart z))

    fine-pre : every (fine l g) pre ≡ true
    fine-pre = before.fine-too ∙ r.before

    fine-post : every (fine l g) post ≡ true
    fine-post = behind.fine-too ∙ r.behind

    fine-behind : every (fine l g) (outs ++ post) ≡ true
    fine-behind = every_append (fine l g) outs post w.each fine-post

    behind-text : bytes_all l g (outs ++ post) ≡ t ++ bytes_all m g post
    behind-text =
        join-append (below l g) outs post ∙ ap (λ (x : List ℕ). x ++ bytes_all l g post) w.became.reads ∙ ap (λ (x : List ℕ). t ++ x) behind.bytes

    seams-outs : seamless (map (below l g) (outs ++ post)) ≡ true
    seams-outs =
        seam-append (below l g) (fine l g) (filled l g) outs post w.each fine-post w.seams (ap seamless behind.texts ∙ r.seams-behind)
        (ap (λ (x : List ℕ). cr_last x && lf_first (bytes_all l g post)) w.became.reads ∙ ap (λ (x : List ℕ). cr_last t && lf_first x) behind.bytes ∙ r.seam-right)

    -- THEOREM: all are fine, with whole seams
    pub fine-all : every (fine l g) (pre ++ (outs ++ post)) ≡ true
    fine-all = every_append (fine l g) pre (outs ++ post) fine-pre fine-behind

    pub seams-all : seamless (map (below l g) (pre ++ (outs ++ post))) ≡ true
    seams-all =
        seam-append (below l g) (fine l g) (filled l g) pre (outs ++ post) fine-pre fine-behind (ap seamless before.texts ∙ r.seams-before) seams-outs
        (ap (λ (x : List ℕ). cr_last x && lf_first (bytes_all l g (outs ++ post))) before.bytes
        ∙ ap (λ (x : List ℕ). cr_last (bytes_all m g pre) && lf_first x) behind-text
        ∙ r.seam-left)

-- ── one edit behind another ──

module _ (m a later : List ℕ) (n d e : ℕ) (u k : ℕ → ℕ) (h : ℕ) (mid : List Kid) (t : List ℕ) (w : ℕ → ℕ) (g s : ℕ) (v : List ℕ) (p : Became m a n d u h mid t)
    (q : (x : ℕ) → w x ≡ k x + uses_all a h mid x) where
  pub made_then : (b : Made) → MadeIs a later n e w g s v b → MadeIs m later n (d + e) (λ x. k x + u x) g s v b
  made_then (same i) r = record { became = then m a later n d e u k h mid t w g _ v p q r.became; each = r.each; seams = r.seams }
  made_then (split i c j) r = record { became = then m a later n d e u k h mid t w g _ v p q r.became; each = r.each; seams = r.seams }
  made_then (small i) r = record { became = then m a later n d e u k h mid t w g _ v p q r.became; good = r.good; told = r.told; few = r.few }
  made_then apart r = r

-- ── another name for what was used, and for the bytes; more spent ──

pub made_as : (m l : List ℕ) (n d : ℕ) (u w : ℕ → ℕ) (h s : ℕ) (t v : List ℕ) (b : Made) → MadeIs m l n d u h s t b → ((x : ℕ) → u x ≡ w x) → t ≡ v → MadeIs m l n d w h s v b
made_as m l n d u w h s t v (same i) r e q = record { became = became-as m l n d u h _ t r.became w v e q; each = r.each; seams = r.seams }
made_as m l n d u w h s t v (split i c j) r e q = record { became = became-as m l n d u h _ t r.became w v e q; each = r.each; seams = r.seams }
made_as m l n d u w h s t v (small i) r e q = record { became = became-as m l n d u h _ t r.became w v e q; good = r.good; told = r.told; few = r.few }
made_as m l n d u w h s t v apart r e q = r
