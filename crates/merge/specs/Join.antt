-- Two nodes of one kind joined in their slots.
use Rattle.answer.specs.Answers.{Answer, outcome}
use Rattle.std.specs.Prelude.{◌≡◌, Bool, true, false, ◌||◌, cond, List, [], ◌∷◌, ◌++◌, ℕ, ◌-◌, ◌<◌, leb, length, take, drop, get_or}
use Rattle.plain.specs.Outcome.{Outcome, Outcome.value, ruled, past, kept, mapped}
use Rattle.leaf_bytes.specs.Split.{half_split}
use Rattle.pool.specs.declared.Kid.{Kid}
use Rattle.pool.specs.Slot.{no_kid, Fits}
use Rattle.node_children.specs.Kids.{list_of}
use Rattle.node_children.specs.Calls.{left_of}
use Rattle.nodes.specs.Node.{is_leaf, text_of, children_of, too_wide, total_of, leaf_put, list_put}

-- ── two nodes: merged into the first (true), or distributed (false), and the memory then ──

-- two leaves: merged if one leaf holds both texts, else cut near the half of both; 11 where a side is too long
abbrev pub parted : List ℕ → ℕ → ℕ → List ℕ → ℕ → Outcome (Bool × List ℕ)
parted m a b t p = ruled ((11, past p 512 || past (length t - p) 512) ∷ []) (false, leaf_put (leaf_put m a (take p t)) b (drop p t))

abbrev pub joined_text : List ℕ → ℕ → ℕ → List ℕ → Outcome (Bool × List ℕ)
joined_text m a b t = cond (leb (length t) 512) (value (true, leaf_put m a t)) (parted m a b t (half_split t))

-- two lists: merged if one list holds all children, else the second gets half of them, rounded down; 2 where counts do not fit
abbrev pub shared : List ℕ → ℕ → ℕ → List Kid → List Kid → Outcome (Bool × List ℕ)
shared m a b ls rs = ruled ((2, too_wide (total_of ls) || too_wide (total_of rs)) ∷ []) (false, list_put (list_put m a (list_of ls)) b (list_of rs))

abbrev pub joined_kids : List ℕ → ℕ → ℕ → List Kid → Outcome (Bool × List ℕ)
joined_kids m a b ks =
    cond (leb (length ks) 16) (ruled ((2, too_wide (total_of ks)) ∷ []) (true, list_put m a (list_of ks)))
    (shared m a b (take (left_of (length ks)) ks) (drop (left_of (length ks)) ks))

unfoldable pub joined : List ℕ → ℕ → ℕ → Outcome (Bool × List ℕ)
unfolding ruled
joined m a b = cond (is_leaf m a) (joined_text m a b (text_of m a ++ text_of m b)) (joined_kids m a b (children_of m a ++ children_of m b))

-- A call that answers a yes or a no, and every byte afterwards.
pub record Joined (o : Outcome (Bool × List ℕ)) (before : List ℕ) (r : Answer Bool) (after : List ℕ) : Type 0 where
  pub answered : outcome r ≡ mapped (λ t. t.0) o
  pub memory : after ≡ kept before (mapped (λ t. t.1) o)

-- every child's numbers have 32 bits
abbrev pub AllFit : List Kid → Type 0
AllFit ks = (i : ℕ) → i < length ks → Fits (get_or ks i no_kid)
