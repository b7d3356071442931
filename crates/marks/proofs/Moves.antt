-- All marks moved: what each reads then, and that nothing but their places has changed.
use Rattle.std.proofs.Common.{◌≡◌, ℕ, zero, suc, ◌%◌, ◌^◌, ◌<◌, ◌≤◌, List, map, length, get_or, sym, refl, ap, ◌∙◌, not-suc-le-zero, arith}
use lib.ListN.{length-map, get_or-map}
use Rattle.plain.proofs.Logic.{cut}
use Rattle.plain_note.specs.Note.{Mark.free, Mark.at, head_size}
use Rattle.plain_calls.specs.Marks.{moved}
use Rattle.plain_calls.proofs.Marks.{same_or_not}
use Rattle.note_head.specs.Head.{live_at, place_at, mark_at, marks_from}
use Rattle.marks.specs.MarkBytes.{mark_moved, marks_moved}
use Rattle.marks.proofs.Rules.{moves_live, moves-free}
use Rattle.marks.proofs.Beside.{Beside, beside_same, beside-twice}
use Rattle.marks.proofs.Written.{place-beside, place-put, place_other, place-lives, live-mark, free-mark, marks-length, mark-of, marks-are}

module _ (f : ℕ → ℕ) where
  -- one mark: it is live, or it is not
  by-live : {P : Type 0} (m : List ℕ) (k : ℕ) → (live_at m k ≡ 1 → P) → ((live_at m k ≡ 1 → ⊥) → P) → P
  by-live m k x y = same_or_not 1 (live_at m k) (λ t e. x (sym e)) (λ t n. y n)

  -- what moving one does to the bytes
  pub record OneMoved (m : List ℕ) (k : ℕ) (later : List ℕ) : Type 0 where
    pub beside : Beside m later
    pub lives : (i : ℕ) → live_at later i ≡ live_at m i
    pub others : (i : ℕ) → (i ≡ k → ⊥) → place_at later i ≡ place_at m i
    pub moves : live_at m k ≡ 1 → place_at later k ≡ f (place_at m k) % 2 ^ 32

  one-moved : (m : List ℕ) (k : ℕ) → head_size ≤ length m → k < 256 → OneMoved m k (mark_moved f m k)
  one-moved m k h l =
      by-live m k
      (λ e. let v = f (place_at m k) % 2 ^ 32 in rw (moves_live f m k e) (record {
        beside = place-beside m h k l v;
        lives = place-lives m h k l v;
        others = place_other m h k l v;
        moves = λ x. place-put m h k l v (omega arith);
      }))
      (λ e. rw (moves-free f m k e) (record { beside = beside_same m; lives = λ i. refl; others = λ i n. refl; moves = λ x. absurd (e x) }))

  -- the first j moved
  pub record Moved (m : List ℕ) (j : ℕ) (later : List ℕ) : Type 0 where
    pub beside : Beside m later
    pub lives : (i : ℕ) → live_at later i ≡ live_at m i
    pub others : (i : ℕ) → j ≤ i → place_at later i ≡ place_at m i
    pub moves : (i : ℕ) → i < j → live_at m i ≡ 1 → place_at later i ≡ f (place_at m i) % 2 ^ 32

  -- THEOREM: what the marks' bytes are then
  pub all_moved : (m : List ℕ) → head_size ≤ length m → (j : ℕ) → j ≤ 256 → Moved m j (marks_moved f m j)
  unfolding marks_moved
  all_moved m h zero l = record { beside = beside_same m; lives = λ i. refl; others = λ i n. refl; moves = λ i n x. absurd (not-suc-le-zero n) }
  all_moved m h (suc j) l =
      let a = marks_moved f m j in
      let r = all_moved m h j (omega arith) in
      let s = one-moved a j (omega (arith, r.beside.size)) l in
      record {
        beside = beside-twice m a (mark_moved f a j) r.beside s.beside;
        lives = λ i. s.lives i ∙ r.lives i;
        others = λ i n. s.others i (λ e. omega arith) ∙ r.others i (omega arith);
        moves = λ i n x. cut i j
            (λ b. s.others i (λ e. omega arith) ∙ r.moves i b x)
            (λ b. let z : i ≡ j = omega arith in
            ap (place_at (mark_moved f a j)) z ∙ s.moves (r.lives j ∙ ap (live_at m) (sym z) ∙ x)
            ∙ ap (λ (q : ℕ). f q % 2 ^ 32) (r.others j (omega arith) ∙ ap (place_at m) (sym z)));
      }

  module _ (m : List ℕ) (h : head_size ≤ length m) (small : (i : ℕ) → i < 256 → live_at m i ≡ 1 → f (place_at m i) < 2 ^ 32) where
    pub moved-place : (i : ℕ) → i < 256 → live_at m i ≡ 1 → place_at (marks_moved f m 256) i ≡ f (place_at m i)
    moved-place i l x = (all_moved m h 256 (omega arith)).moves i l x ∙ omega (arith, small i l x)

    -- THEOREM: all marks moved, as they are read
    pub moved_marks : marks_from (marks_moved f m 256) 0 256 ≡ map (moved f) (marks_from m 0 256)
    moved_marks =
        let later = marks_moved f m 256 in
        let r = all_moved m h 256 (omega arith) in
        marks-are later (map (moved f) (marks_from m 0 256)) (length-map (marks_from m 0 256) (moved f) ∙ marks-length m 0 256)
        (λ i l. by-live m i
        (λ e. live-mark later i (r.lives i ∙ e) ∙ ap (λ (q : ℕ). at q) (moved-place i l e) ∙ sym (ap (moved f) (live-mark m i e)) ∙ read i l)
        (λ e. free-mark later i (λ x. e (sym (r.lives i) ∙ x)) ∙ sym (ap (moved f) (free-mark m i e)) ∙ read i l))
      where
        read : (i : ℕ) → i < 256 → moved f (mark_at m i) ≡ get_or (map (moved f) (marks_from m 0 256)) i free
        read i l = sym (ap (moved f) (mark-of m i l)) ∙ sym (get_or-map (moved f) (marks_from m 0 256) i free)
