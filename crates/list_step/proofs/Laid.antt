-- The children of the list in slot p, whatever wrote them there: what the memory then holds. No call needs it; the laws do.
use mathlib.Core.Path.{◌≡◌, sym, ap, ◌∙◌}
use mathlib.Core.Bool.{true}
use mathlib.Core.List.{List, [], ◌∷◌, ◌++◌, append-nil}
use Prim.Native.Nat.{ℕ, suc, ◌+◌, ◌≤◌, ◌<◌}
use native.Mathlib.Omega.{arith}
use lib.ListN.{length, take, drop, get_or, set, length-set, take-append-drop}
use lib.Seq.{take-take, take_at, set-append_left}
use Rattle.plain_note.specs.Note.{head_size}
use Rattle.text_info.specs.declared.TextInfo.{TextInfo}
use Rattle.pool.specs.declared.Kid.{Kid}
use Rattle.pool.specs.Slot.{slot_start, slot_of, len_of, region_of, entries, no_kid, Fits, kid_put}
use Rattle.pool.proofs.Slots.{head-same, kid-entries, kid-head, kid-others, kid-front, kid-size}
use Rattle.node_children.specs.Kids.{list_of}
use Rattle.node_children.proofs.Lists.{kids-of}
use Rattle.nodes.specs.Node.{is_list, children_of, list_put, Fitting}
use Rattle.nodes.proofs.Heads.{list-says, list-is}
use Rattle.nodes.proofs.Put.{list-size, list_put_lem, list-children, list-others, list-front}
use Rattle.nodes.proofs.Fitted.{list-fits}
use Rattle.tree.specs.Tree.{join_over, sum_over, bytes_below, hit, uses}
use Rattle.tree.specs.Kids.{below}
use Rattle.tree.proofs.Lists.{join-cons, join-none, sum-cons, sum-none}
use Rattle.tree.proofs.Sound.{list-bytes, list-uses, children-length}
use Rattle.tree.proofs.Frame.{hit-self, KeptAll, kept-all}
use Rattle.note_head.specs.Head.{n_of, free_of}
use Rattle.note_head.proofs.Own.{front-n, front-free}
use Rattle.memory.specs.Formed.{frees, chained}
use Rattle.edit_steps.specs.Made.{Made, Made.same, Made.split, Made.small, Made.apart}
use Rattle.edit_steps.specs.Became.{uses_all, bytes_all, free, Slotted, Became}
use Rattle.edit_steps.specs.Grown.{kid, MadeIs}
use Rattle.edit_steps.proofs.Rules.{became-more}
use Rattle.edit_steps.proofs.Chains.{below-same, KeptChain, kept-chain}
use Rattle.list_step.proofs.Rules.{list-len}

-- slot p of a memory became the list of these children, and nothing else changed
pub record Laid (m later : List ℕ) (p : ℕ) (ks : List Kid) : Type 0 where
  pub long : length later ≡ length m
  pub list : is_list later p ≡ true
  pub children : children_of later p ≡ ks
  pub others : (x : ℕ) → (x ≡ p → ⊥) → slot_of later x ≡ slot_of m x
  pub head : take head_size later ≡ take head_size m

-- as the whole list is stored
pub list-laid : (m : List ℕ) (p : ℕ) (ks : List Kid) → slot_start p + 640 ≤ length m → length ks ≤ 16
    → ((j : ℕ) → j < length ks → Fits (get_or ks j no_kid)) → Laid m (list_put m p (list_of ks)) p ks
list-laid m p ks inside most fits =
    let few : (list_of ks).len ≤ 16 = omega (arith, list-len ks) in
    let fit : Fitting (list_of ks).arr = list-fits ks most fits in
    record {
      long = list-size m p (list_of ks) inside few fit.sixteen;
      list = list_put_lem m p (list_of ks) inside few fit.sixteen;
      children = list-children m p (list_of ks) inside few fit.sixteen fit ∙ kids-of ks;
      others = list-others m p (list_of ks) inside few fit.sixteen;
      head = list-front m p (list_of ks) inside few fit.sixteen;
    }

-- one entry written
module _ (l : List ℕ) (p i : ℕ) (e : is_list l p ≡ true) (h : i < len_of l p) (k : Kid) (f : Fits k) where
  there : slot_start p + 640 ≤ length l
  there = (list-says l p e).0

  low : i < 16
  low = omega (arith, (list-says l p e).2)

  abbrev after : List ℕ
  after = kid_put l p i k

  heads : len_of after p ≡ len_of l p
  heads = (head-same after l p (kid-head l p i k there low)).1

  abbrev es : List Kid
  es = entries (region_of l p)

  few : length (children_of l p) ≡ len_of l p
  few = children-length l p e

  pub kid-laid : Laid l after p (set (children_of l p) i k)
  kid-laid =
      record {
        long = kid-size l p i k there low;
        list = list-is after p (omega (arith, kid-size l p i k there low, there)) ((head-same after l p (kid-head l p i k there low)).0 ∙ (list-says l p e).1) (omega (arith, heads, (list-says l p e).2));
        children =
            ap (λ (n : ℕ). take n (entries (region_of after p))) heads
            ∙ ap (take (len_of l p)) (kid-entries l p i k there low f)
            ∙ ap (λ (x : List Kid). take (len_of l p) (set x i k)) (sym (take-append-drop (len_of l p) es))
            ∙ ap (take (len_of l p)) (set-append_left (children_of l p) (drop (len_of l p) es) i k (omega (arith, few)))
            ∙ take_at (set (children_of l p) i k) (drop (len_of l p) es) (len_of l p) (length-set (children_of l p) i k ∙ few);
        others = kid-others l p i k there low;
        head = kid-front l p i k there low;
      }

-- ── children that lie apart ──

module _ (m later : List ℕ) (n g p : ℕ) (ks : List Kid) (slotted : Slotted m n) (once : (x : ℕ) → hit p x + uses_all m g ks x + free m n x ≤ 1) (w : Laid m later p ks) where
  hit-it : (x : ℕ) → x ≡ p → hit p x ≡ 1
  hit-it x q = ap (hit p) q ∙ hit-self p

  pub kept-kids : KeptAll m later w.long g ks
  kept-kids = kept-all m later w.long g ks (λ x l. w.others x (λ q. omega (arith, once x, hit-it x q)))

  -- ── the free slots ──

  first-is : free_of later ≡ free_of m
  first-is = sym (front-free later head_size (omega arith)) ∙ ap free_of w.head ∙ front-free m head_size (omega arith)

  chain : KeptChain m later n n (free_of m)
  chain = kept-chain m later n n (free_of m) slotted.chain (λ x l. w.others x (λ q. omega (arith, once x, hit-it x q)))

  pub free-same : (x : ℕ) → free later n x ≡ free m n x
  free-same x = ap (λ (s : ℕ). frees later n n s x) first-is ∙ chain.same x

  slotted-too : Slotted later n
  slotted-too =
      record {
        long = w.long ∙ slotted.long;
        stored = sym (front-n later head_size (omega arith)) ∙ ap n_of w.head ∙ front-n m head_size (omega arith) ∙ slotted.stored;
        chain = ap (chained later n n) first-is ∙ chain.chain;
        once = λ x. omega (arith, free-same x, slotted.once x);
      }

  -- ── the list ──

  node-uses : (x : ℕ) → uses later (suc g) p x ≡ hit p x + uses_all m g ks x
  node-uses x =
      list-uses later p g x
      ∙ ap (λ (l : List Kid). hit p x + sum_over (λ k. uses later g k.slot x) l) w.children
      ∙ ap (λ (j : ℕ). hit p x + j) (kept-kids.used x)

  pub node-bytes : bytes_below later (suc g) p ≡ bytes_all m g ks
  node-bytes = list-bytes later p g ∙ ap (join_over (below later g)) w.children ∙ kept-kids.bytes

  -- THEOREM: what used the children and slot p became the list, whatever its counts are said to be
  pub laid-became : (info : TextInfo) → Became m later n 0 (λ x. hit p x + uses_all m g ks x) (suc g) (kid p info ∷ []) (bytes_all m g ks)
  laid-became info =
      record {
        slotted = slotted-too;
        conserve = λ x. omega (
          arith,
          sum-cons (λ (k : Kid). uses later (suc g) k.slot x) (kid p info) [],
          sum-none (λ (k : Kid). uses later (suc g) k.slot x),
          node-uses x,
          free-same x,
        );
        reads =
            join-cons (below later (suc g)) (kid p info) []
            ∙ ap (λ (l : List ℕ). bytes_below later (suc g) p ++ l) (join-none (below later (suc g)))
            ∙ append-nil (bytes_below later (suc g) p)
            ∙ node-bytes;
        only = λ x z. w.others x (λ q. omega (arith, hit-it x q));
        front = sym (take-take 32 head_size later (omega arith)) ∙ ap (take 32) w.head ∙ take-take 32 head_size m (omega arith);
        rest = ap (drop 36) w.head;
        spent = omega (arith, below-same n (free later n) (free m n) free-same);
      }

-- it may have spent more
pub made_more : (m l : List ℕ) (n d e : ℕ) (u : ℕ → ℕ) (h s : ℕ) (t : List ℕ) (b : Made) → MadeIs m l n d u h s t b → d ≤ e → MadeIs m l n e u h s t b
made_more m l n d e u h s t (same i) r q = record { became = became-more m l n d u h _ t r.became e q; each = r.each; seams = r.seams }
made_more m l n d e u h s t (split i c j) r q = record { became = became-more m l n d u h _ t r.became e q; each = r.each; seams = r.seams }
made_more m l n d e u h s t (small i) r q = record { became = became-more m l n d u h _ t r.became e q; good = r.good; told = r.told; few = r.few }
made_more m l n d e u h s t apart r q = r
