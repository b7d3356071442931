-- What the calls on a node come to: document 01's refusals, the answers, and the memory afterwards.
use Rattle.answer.specs.Answers.{Answer, outcome}
use Rattle.std.specs.Prelude.{◌≡◌, not, ◌&&◌, cond, List, [], ◌∷◌, ℕ, eqb, length, Ok, Err}
use Rattle.plain.specs.Outcome.{Outcome, Outcome.refused, ruled, past, kept, mapped}
use Rattle.leaf_bytes.specs.Raw.{replacing}
use Rattle.node_text.specs.Texts.{edited, inserted_split}
use Rattle.text_info.specs.declared.TextInfo.{TextInfo}
use Rattle.text_info.specs.declared.TextSum.{TextSum}
use Rattle.pool.specs.Slot.{len_of, region_of}
use Rattle.pool.specs.declared.Kid.{Kid}
use Rattle.pool.specs.Calls.{outside}
use Rattle.node_children.specs.declared.NodeChildren.{NodeChildren}
use Rattle.node_children.specs.Kids.{kids, list_of}
use Rattle.node_children.specs.Calls.{too_long}
use Rattle.child_search.specs.declared.Measure.{Measure}
use Rattle.child_search.specs.Sought.{searched}
use Rattle.nodes.specs.Node.{is_leaf, is_list, text_of, children_of, too_wide, narrowed, total_of, counts_of, lost, ill, leaf_put, list_put, Fitting}

-- the list in a slot
unfoldable pub loaded : List ℕ → ℕ → Outcome NodeChildren
unfolding ruled is_list list_of
loaded m s = ruled ((2, not (is_list m s)) ∷ []) (list_of (children_of m s))

-- the child of the list in a slot that an index lies in, and the counts on its left
unfoldable pub list_searched : List ℕ → ℕ → Measure → ℕ → Outcome (ℕ × TextSum)
unfolding is_list list_of searched
list_searched m s by at = cond (is_list m s) (searched (list_of (children_of m s)) by at) (refused 2)

-- the memory with a list in a slot
unfoldable pub stored : List ℕ → ℕ → NodeChildren → Outcome (List ℕ)
unfolding ruled
stored m s c = ruled ((2, outside m s) ∷ too_long c.len ∷ []) (list_put m s c)

-- the entries that an accepted call wrote have numbers of 32 bits
abbrev pub Fitted : Answer (Unit {0}) → List Kid → Type 0
Fitted (Ok tt) ks = Fitting ks
Fitted (Err q) ks = Unit {0}

-- the counts of a list's children: of a list that is too long, of the sixteen that are there
unfoldable pub list_counted : NodeChildren → Outcome TextInfo
unfolding ruled
list_counted c = ruled ((2, too_wide (total_of (kids c))) ∷ too_long c.len ∷ []) (narrowed (total_of (kids c)))

-- the counts of a node
unfoldable pub counted : List ℕ → ℕ → Outcome TextInfo
unfolding ruled
counted m s = ruled ((2, lost m s) ∷ (5, ill m s) ∷ []) (counts_of m s)

-- ── leaves ──

-- a leaf's text, for an output of some bytes
unfoldable pub text_read : List ℕ → ℕ → ℕ → Outcome (List ℕ)
unfolding ruled
text_read m s out = ruled ((2, not (is_leaf m s)) ∷ (9, past (length (text_of m s)) out) ∷ []) (text_of m s)

-- [s, e) of the leaf in a slot gives way to a piece, be its bytes text or not: refused by its range and its size alone, behind the slot
unfoldable pub leaf_replaced : List ℕ → ℕ → ℕ → ℕ → List ℕ → Outcome (List ℕ)
leaf_replaced m slot s e piece = cond (is_leaf m slot) (replacing (region_of m slot) (len_of m slot) s e piece) (refused 2)

-- the same of text: the leaf's own refusals behind that of the slot
unfoldable pub leaf_edited : List ℕ → ℕ → ℕ → ℕ → List ℕ → Outcome (List ℕ)
leaf_edited m slot s e piece = cond (is_leaf m slot) (edited (region_of m slot) (len_of m slot) s e piece) (refused 2)

-- a piece put into the leaf in a slot at i, and the whole parted near its half; the right side goes to another slot
unfoldable pub leaf_halved : List ℕ → ℕ → ℕ → List ℕ → ℕ → Outcome (List ℕ × List ℕ)
leaf_halved m slot i piece right =
    cond (is_leaf m slot && (not (outside m right) && not (eqb slot right)))
    (inserted_split (region_of m slot) (len_of m slot) i piece (region_of m right)) (refused 2)

-- A call that gives a leaf another text: how long that is, and every byte afterwards.
pub record LeafWrote (o : Outcome (List ℕ)) (before : List ℕ) (slot : ℕ) (r : Answer ℕ) (after : List ℕ) : Type 0 where
  pub answered : outcome r ≡ mapped (λ t. length t) o
  pub memory : after ≡ kept before (mapped (λ t. leaf_put before slot t) o)

-- A call that makes two leaves.
pub record LeavesWrote (o : Outcome (List ℕ × List ℕ)) (before : List ℕ) (slot right : ℕ) (r : Answer (ℕ × ℕ)) (after : List ℕ) : Type 0 where
  pub answered : outcome r ≡ mapped (λ t. (length t.0, length t.1)) o
  pub memory : after ≡ kept before (mapped (λ t. leaf_put (leaf_put before slot t.0) right t.1) o)
