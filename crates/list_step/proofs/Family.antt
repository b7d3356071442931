-- A family of children of the list in slot p, which neither they use nor is free: what the memory holds when the list was written, whatever wrote it.
use mathlib.Core.Path.{◌≡◌, refl, sym, ap, ◌∙◌}
use mathlib.Core.Bool.{Bool, true, false, cond}
use mathlib.Core.List.{List, [], ◌∷◌, map}
use Prim.Native.Nat.{ℕ, suc, ◌+◌, ◌≤◌, ◌<◌}
use native.Mathlib.Omega.{arith}
use lib.Dec.{ltb}
use lib.ListN.{length, get_or}
use borrow.Author.Tests.{ltb-true, ltb-false}
use Rattle.plain.specs.Utf8.{decode}
use Rattle.text_info.specs.declared.TextInfo.{TextInfo}
use Rattle.text_info.specs.declared.TextSum.{TextSum}
use Rattle.pool.specs.declared.Kid.{Kid}
use Rattle.pool.specs.Slot.{len_of, no_kid, Fits}
use Rattle.node_children.specs.Kids.{list_of}
use Rattle.nodes.specs.Node.{list_put, too_wide, narrowed, total_of}
use Rattle.tree.specs.Tree.{every, hit, seamless, least_at, sum_of, tells, told_right, sound}
use Rattle.tree.specs.Kids.{below, fine}
use Rattle.tree.proofs.Lists.{both, every-cons, every-none}
use Rattle.tree.proofs.Sound.{sound-list, children-length}
use Rattle.tree.proofs.Frame.{KeptAll}
use Rattle.edit_steps.specs.Made.{Made.same, Made.small, sized}
use Rattle.edit_steps.specs.Became.{uses_all, bytes_all, free, Slotted, Became}
use Rattle.edit_steps.specs.Grown.{kid, MadeIs}
use Rattle.list_step.proofs.Totals.{all_fit, tells-self, not_wide, all_valid, total-is}
use Rattle.list_step.proofs.Laid.{Laid, list-laid, kept-kids, node-bytes, laid-became}

-- children of height g that may be stored in slot p
pub record Family (m : List ℕ) (n g p : ℕ) (ks : List Kid) : Type 0 where
  pub few : n < 4294967296
  pub slotted : Slotted m n
  pub there : p < n
  pub most : length ks ≤ 16
  pub each : every (fine m g) ks ≡ true
  pub seams : seamless (map (below m g) ks) ≡ true
  pub once : (x : ℕ) → hit p x + uses_all m g ks x + free m n x ≤ 1
  pub small : length (bytes_all m g ks) < 4294967296

-- the counts of children, as their list's parent stores them
abbrev pub counts_of : List Kid → TextInfo
counts_of ks = narrowed (total_of ks)

module _ (m : List ℕ) (n g p : ℕ) (ks : List Kid) (f : Family m n g p ks) where
  counts : total_of ks ≡ sum_of (decode (bytes_all m g ks))
  counts = total-is m g ks f.each f.seams

  pub narrow-enough : too_wide (total_of ks) ≡ false
  narrow-enough = ap too_wide counts ∙ not_wide (bytes_all m g ks) (all_valid m g ks f.each) f.small

  -- THEOREM: the counts are those of the joined text
  pub family-told : tells (counts_of ks) (sum_of (decode (bytes_all m g ks))) ≡ true
  family-told = ap (λ (s : TextSum). tells (counts_of ks) s) (sym counts) ∙ tells-self (total_of ks)

  pub family-fits : (i : ℕ) → i < length ks → Fits (get_or ks i no_kid)
  family-fits = all_fit m g ks f.each f.small (omega (arith, f.slotted.long, f.few))

-- ── laid in slot p, whatever wrote it there ──

module _ (m later : List ℕ) (n g p : ℕ) (ks : List Kid) (f : Family m n g p ks) (w : Laid m later p ks) where
  stays : KeptAll m later w.long g ks
  stays = kept-kids m later n g p ks f.slotted f.once w

  has-many : len_of later p ≡ length ks
  has-many = sym (children-length later p w.list) ∙ ap length w.children

  laid-sound : (least : ℕ) → least ≤ length ks → sound later least (suc g) p ≡ true
  laid-sound least h =
      sound-list later least g p
      (record {
        list = w.list;
        size = omega (arith, has-many);
        each = ap (every (fine later g)) w.children ∙ stays.fine-too ∙ f.each;
        seams = ap (λ (l : List Kid). seamless (map (below later g) l)) w.children ∙ ap seamless stays.texts ∙ f.seams;
      })

  module _ (info : TextInfo) (told : tells info (sum_of (decode (bytes_all m g ks))) ≡ true) where
    laid-told : told_right later (suc g) (kid p info) ≡ true
    unfolding told_right
    laid-told = ap (λ (t : List ℕ). tells info (sum_of (decode t))) (node-bytes m later n g p ks f.slotted f.once w) ∙ told

    four : least_at (suc g) ≡ 4
    unfolding least_at
    four = refl

    seam-one : seamless (map (below later (suc g)) (kid p info ∷ [])) ≡ true
    unfolding seamless
    seam-one = refl

    -- THEOREM: the list with these counts is what became of the children and slot p
    pub laid-made : MadeIs m later n 0 (λ x. hit p x + uses_all m g ks x) (suc g) p (bytes_all m g ks) (sized 4 (length ks) info)
    laid-made = go (ltb (length ks) 4) refl
      where
        go : (b : Bool) → ltb (length ks) 4 ≡ b → MadeIs m later n 0 (λ x. hit p x + uses_all m g ks x) (suc g) p (bytes_all m g ks) (cond b (small info) (same info))
        go true e =
            record {
              became = laid-became m later n g p ks f.slotted f.once w info;
              good = laid-sound 0 (omega arith);
              told = laid-told;
              few = omega (arith, has-many, four, ltb-true (length ks) 4 e);
            }
        go false e =
            record {
              became = laid-became m later n g p ks f.slotted f.once w info;
              each = every-cons (fine later (suc g)) (kid p info) []
                  (both (sound later (least_at (suc g)) (suc g) p) (told_right later (suc g) (kid p info)) (laid-sound (least_at (suc g)) (omega (arith, four, ltb-false (length ks) 4 e))) laid-told)
                  (every-none (fine later (suc g)));
              seams = seam-one;
            }

-- ── stored as a whole ──

module _ (m : List ℕ) (n g p : ℕ) (ks : List Kid) (f : Family m n g p ks) where
  abbrev stored : List ℕ
  stored = list_put m p (list_of ks)

  pub put-laid : Laid m stored p ks
  put-laid = list-laid m p ks (omega (arith, f.slotted.long, f.there)) f.most (family-fits m n g p ks f)

  -- THEOREM: the list is sound, where it has as many children as it should
  pub is-sound : (least : ℕ) → least ≤ length ks → sound stored least (suc g) p ≡ true
  is-sound = laid-sound m stored n g p ks f put-laid

  -- THEOREM: its counts are told right
  pub is-told : told_right stored (suc g) (kid p (counts_of ks)) ≡ true
  is-told = laid-told m stored n g p ks f put-laid (counts_of ks) (family-told m n g p ks f)

  -- THEOREM: what used the children and slot p became the list
  pub is-became : Became m stored n 0 (λ x. hit p x + uses_all m g ks x) (suc g) (kid p (counts_of ks) ∷ []) (bytes_all m g ks)
  is-became = laid-became m stored n g p ks f.slotted f.once put-laid (counts_of ks)
