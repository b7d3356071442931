-- The calls on one slot: its head and entries, the list or the leaf that it holds.
use mathlib.Core.Path.{◌≡◌, refl}
use mathlib.Core.Bool.{Bool, true, false, not, ◌&&◌, ◌||◌, cond}
use mathlib.Core.List.{List, [], ◌∷◌}
use Prim.Native.Nat.{ℕ}
use lib.Dec.{eqb}
use lib.ListN.{length}
use Rattle.plain.specs.Edit.{replaced, put_in}
use Rattle.plain.specs.Outcome.{Outcome.refused, ruled, past}
use Rattle.leaf_bytes.specs.Leaf.{over}
use Rattle.leaf_bytes.specs.Split.{half_split}
use Rattle.leaf_bytes.specs.Raw.{over_sides, replacing}
use Rattle.node_text.specs.Texts.{off_chars, no_text, edited, inserted_split}
use Rattle.text_info.specs.declared.TextSum.{TextSum}
use Rattle.pool.specs.declared.Kid.{Kid}
use Rattle.pool.specs.Slot.{kind_of, len_of, region_of}
use Rattle.pool.specs.Calls.{outside, no_slot, no_entry, wrong_head, head_of, kid_of, region_start, head_set, kid_set}
use Rattle.node_children.specs.declared.NodeChildren.{NodeChildren}
use Rattle.node_children.specs.Kids.{kids, list_of}
use Rattle.node_children.specs.Calls.{too_long}
use Rattle.child_search.specs.declared.Measure.{Measure}
use Rattle.child_search.specs.Sought.{total, most_of, searched}
use Rattle.nodes.specs.Node.{is_leaf, is_list, text_of, children_of, too_wide, narrowed, total_of, lost, ill}
use Rattle.nodes.specs.Calls.{loaded, list_searched, stored, list_counted, counted, text_read, leaf_replaced, leaf_edited, leaf_halved}
use Rattle.refusal_order.specs.Order.{judged, InOrder}
use Rattle.refusal_order.proofs.Given.{by-rules, in-slot}

-- a search in the list of a slot: where it holds none, no rule of the search is asked
in_list : {A : Type 0} (t a b d : Bool) (v : A) → judged (cond t (ruled ((12, a) ∷ (3, b) ∷ (11, d) ∷ []) v) (refused 2))
    ≡ ruled ((12, t && a) ∷ (2, not t) ∷ (3, t && b) ∷ (11, t && d) ∷ []) tt
unfolding ruled
in_list false a b d v = refl
in_list true true b d v = refl
in_list true false true d v = refl
in_list true false false true v = refl
in_list true false false false v = refl

module _ (m : List ℕ) (s : ℕ) where
  -- ── pool ──

  pub head-of-order : InOrder ((2, outside m s || wrong_head (kind_of m s) (len_of m s)) ∷ []) (head_of m s)
  unfolding head_of
  head-of-order = by-rules _ _ refl

  pub kid-of-order : (i : ℕ) → InOrder (no_slot m s ∷ no_entry i ∷ []) (kid_of m s i)
  unfolding kid_of
  kid-of-order i = by-rules _ _ refl

  pub region-start-order : InOrder (no_slot m s ∷ []) (region_start m s)
  unfolding region_start
  region-start-order = by-rules _ _ refl

  pub head-set-order : (kind len most next : ℕ) → InOrder (no_slot m s ∷ (11, past len most) ∷ []) (head_set m s kind len most next)
  unfolding head_set
  head-set-order kind len most next = by-rules _ _ refl

  pub kid-set-order : (i : ℕ) (k : Kid) → InOrder (no_slot m s ∷ no_entry i ∷ []) (kid_set m s i k)
  unfolding kid_set
  kid-set-order i k = by-rules _ _ refl

  -- ── lists ──

  pub loaded-order : InOrder ((2, not (is_list m s)) ∷ []) (loaded m s)
  unfolding loaded
  loaded-order = by-rules _ _ refl

  pub stored-order : (c : NodeChildren) → InOrder ((2, outside m s) ∷ too_long c.len ∷ []) (stored m s c)
  unfolding stored
  stored-order c = by-rules _ _ refl

  abbrev list : NodeChildren
  list = list_of (children_of m s)

  pub list-searched-order : (by : Measure) (at : ℕ)
      → InOrder
      ((12, is_list m s && eqb list.len 0)
      ∷ (2, not (is_list m s))
      ∷ (3, is_list m s && past at (most_of by (total list)))
      ∷ (11, is_list m s && past list.len 16)
      ∷ []) (list_searched m s by at)
  unfolding list_searched searched
  list-searched-order by at = record { settled = in_list (is_list m s) (eqb list.len 0) (past at (most_of by (total list))) (past list.len 16) _; order = refl }

  -- ── counts ──

  pub counted-order : InOrder ((2, lost m s) ∷ (5, ill m s) ∷ []) (counted m s)
  unfolding counted
  counted-order = by-rules _ _ refl

  -- ── leaves ──

  pub text-read-order : (out : ℕ) → InOrder ((2, not (is_leaf m s)) ∷ (9, past (length (text_of m s)) out) ∷ []) (text_read m s out)
  unfolding text_read
  text-read-order out = by-rules _ _ refl

  abbrev region : List ℕ
  region = region_of m s

  abbrev leaf : List ℕ
  leaf = text_of m s

  pub leaf-replaced-order : (i e : ℕ) (piece : List ℕ)
      → InOrder
      ((2, not (is_leaf m s)) ∷ (3, past i e || past e (length leaf)) ∷ (11, over region (len_of m s) || over region (length (replaced i e piece leaf))) ∷ [])
      (leaf_replaced m s i e piece)
  unfolding leaf_replaced replacing
  leaf-replaced-order i e piece = in-slot (is_leaf m s) _ _ refl

  pub leaf-edited-order : (i e : ℕ) (piece : List ℕ)
      → InOrder
      ((2, not (is_leaf m s))
      ∷ off_chars leaf i e
      ∷ no_text leaf piece
      ∷ (11, over region (len_of m s) || over region (length (replaced i e piece leaf)))
      ∷ []) (leaf_edited m s i e piece)
  unfolding leaf_edited edited
  leaf-edited-order i e piece = in-slot (is_leaf m s) _ _ refl

  pub leaf-halved-order : (i : ℕ) (piece : List ℕ) (right : ℕ)
      → InOrder
      ((2, not (is_leaf m s && (not (outside m right) && not (eqb s right))))
      ∷ off_chars leaf i i
      ∷ no_text leaf piece
      ∷ (11, over region (len_of m s) || over_sides region (region_of m right) (put_in i piece leaf) (half_split (put_in i piece leaf)))
      ∷ []) (leaf_halved m s i piece right)
  unfolding leaf_halved inserted_split
  leaf-halved-order i piece right = in-slot (is_leaf m s && (not (outside m right) && not (eqb s right))) _ _ refl

-- `narrow`, `list_info`
pub narrow-order : (s : TextSum) → InOrder ((2, too_wide s) ∷ []) (ruled ((2, too_wide s) ∷ []) (narrowed s))
narrow-order s = by-rules _ _ refl

pub list-counted-order : (c : NodeChildren) → InOrder ((2, too_wide (total_of (kids c))) ∷ too_long c.len ∷ []) (list_counted c)
unfolding list_counted
list-counted-order c = by-rules _ _ refl
