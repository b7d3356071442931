-- What the stores of the head's writers come to, and which rule a test of their code is.
use Rattle.answer.specs.Answers.{Answer}
use mathlib.Core.Path.{◌≡◌, refl, sym, ap, ◌∙◌}
use mathlib.Core.List.{List, [], ◌∷◌, ◌++◌}
use Prim.Native.Nat.{ℕ, ◌+◌, ◌≤◌, ◌<◌}
use native.Mathlib.Omega.{arith}
use native.Mathlib.Numerals.{add-one}
use lib.Dec.{leb}
use lib.ListN.{length, take, drop, set}
use lib.Seq.{set_split}
use borrow.Author.Tests.{lt-ltb, le-ltb, le-leb, lt-leb}
use Rattle.plain_note.specs.Note.{head_size}
use Rattle.plain.specs.Outcome.{Outcome, Outcome.value, Outcome.refused, ruled, past, kept}
use Rattle.plain.proofs.Outcome.{rule-applies, rule-passed, one-applies, one-passed}
use Rattle.octets.specs.Over.{overlaid}
use Rattle.octets.proofs.Over.{overlaid-length, over-join, sets_over}
use Rattle.pool.specs.declared.Kid.{Kid}
use Rattle.pool.specs.Calls.{Wrote}
use Rattle.note_head.specs.Writes.{number_put, root_put, height_put, live_put, place_put, no_head, no_mark, number_set, root_set, height_set, live_set, place_set}

-- a number, by four stores, and a byte by one
pub number-laid : (m : List ℕ) (p a b c d : ℕ) → p + 4 ≤ length m
    → set (set (set (set m p a) (p + 1) b) (p + 2) c) (p + 3) d ≡ overlaid p (a ∷ b ∷ c ∷ d ∷ []) m
number-laid m p a b c d h =
    let x = a ∷ b ∷ [] in
    let z : p + 3 ≡ p + 2 + 1 = omega arith in
    let two : (l : List ℕ) → length l ≡ length m → set (set l (p + 2) c) (p + 3) d ≡ overlaid (p + 2) (c ∷ d ∷ []) l = λ l e. ap (λ (n : ℕ). set (set l (p + 2) c) n d) z ∙ sets_over l (p + 2) c d (omega arith) in
    ap (λ (l : List ℕ). set (set l (p + 2) c) (p + 3) d) (sets_over m p a b (omega arith))
    ∙ two (overlaid p x m) (overlaid-length p x m (omega arith))
    ∙ over-join p (p + 2) x (c ∷ d ∷ []) m refl (omega arith)

pub byte-laid : (m : List ℕ) (p a : ℕ) → p < length m → set m p a ≡ overlaid p (a ∷ []) m
byte-laid m p a h = set_split m p a h ∙ ap (λ (n : ℕ). take p m ++ (a ∷ drop n m)) (sym (add-one p))

-- ── the rule ──

module _ (m : List ℕ) (h : length m < head_size) where
  pub number_short : (at v : ℕ) → number_set m at v ≡ refused 2
  unfolding number_set
  number_short at v = one-applies 2 (past head_size (length m)) (number_put m at v) (lt-ltb (length m) head_size h)

  pub root-short : (k : Kid) → root_set m k ≡ refused 2
  unfolding root_set
  root-short k = one-applies 2 (past head_size (length m)) (root_put m k) (lt-ltb (length m) head_size h)

  pub height-short : (v : ℕ) → height_set m v ≡ refused 2
  unfolding height_set
  height-short v = one-applies 2 (past head_size (length m)) (height_put m v) (lt-ltb (length m) head_size h)

module _ (m : List ℕ) (h : head_size ≤ length m) where
  pub number-it : (at v : ℕ) → number_set m at v ≡ value (number_put m at v)
  unfolding number_set
  number-it at v = one-passed 2 (past head_size (length m)) (number_put m at v) (le-ltb (length m) head_size h)

  pub root-it : (k : Kid) → root_set m k ≡ value (root_put m k)
  unfolding root_set
  root-it k = one-passed 2 (past head_size (length m)) (root_put m k) (le-ltb (length m) head_size h)

  pub height-it : (v : ℕ) → height_set m v ≡ value (height_put m v)
  unfolding height_set
  height-it v = one-passed 2 (past head_size (length m)) (height_put m v) (le-ltb (length m) head_size h)

  -- what a call that is not refused has written
  module _ (r : Answer (Unit {0})) (after : List ℕ) where
    pub number-there : (at v : ℕ) → Wrote (number_set m at v) m r after → after ≡ number_put m at v
    number-there at v w = w.memory ∙ ap (λ (o : Outcome (List ℕ)). kept m o) (number-it at v)

    pub root-there : (k : Kid) → Wrote (root_set m k) m r after → after ≡ root_put m k
    root-there k w = w.memory ∙ ap (λ (o : Outcome (List ℕ)). kept m o) (root-it k)

    pub height-there : (v : ℕ) → Wrote (height_set m v) m r after → after ≡ height_put m v
    height-there v w = w.memory ∙ ap (λ (o : Outcome (List ℕ)). kept m o) (height-it v)

-- ── the rules of a mark ──

module _ (m : List ℕ) (k : ℕ) (x : List ℕ) where
  pub mark-short : length m < head_size → ruled (no_head m ∷ no_mark k ∷ []) x ≡ refused 2
  mark-short h = rule-applies 2 (past head_size (length m)) (no_mark k ∷ []) x (lt-ltb (length m) head_size h)

  module _ (h : head_size ≤ length m) where
    passed : ruled (no_head m ∷ no_mark k ∷ []) x ≡ ruled (no_mark k ∷ []) x
    passed = rule-passed 2 (past head_size (length m)) (no_mark k ∷ []) x (le-ltb (length m) head_size h)

    pub mark-none : 256 ≤ k → ruled (no_head m ∷ no_mark k ∷ []) x ≡ refused 7
    mark-none l = passed ∙ one-applies 7 (leb 256 k) x (le-leb 256 k l)

    pub mark-it : k < 256 → ruled (no_head m ∷ no_mark k ∷ []) x ≡ value x
    mark-it l = passed ∙ one-passed 7 (leb 256 k) x (lt-leb 256 k l)

-- what a call that is not refused has written
module _ (m : List ℕ) (h : head_size ≤ length m) (k : ℕ) (l : k < 256) (v : ℕ) (r : Answer (Unit {0})) (after : List ℕ) where
  pub live-there : Wrote (live_set m k v) m r after → after ≡ live_put m k v
  unfolding live_set
  live-there w = w.memory ∙ ap (λ (o : Outcome (List ℕ)). kept m o) (mark-it m k (live_put m k v) h l)

  pub place-there : Wrote (place_set m k v) m r after → after ≡ place_put m k v
  unfolding place_set
  place-there w = w.memory ∙ ap (λ (o : Outcome (List ℕ)). kept m o) (mark-it m k (place_put m k v) h l)
