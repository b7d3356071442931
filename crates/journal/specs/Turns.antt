-- What the steps of a listing promise. m and m' are the lent memory before and after, o and o' the output, b and b' the buffer. The input goes on behind the
-- bytes that are there, with whatever more comes.
use Rattle.std.specs.Prelude.{◌≡◌, Bool, true, false, not, ◌||◌, cond, List, [], ◌∷◌, ◌++◌, ◌⊎◌, ℕ, ◌+◌, ◌-◌, ◌*◌, ◌^◌, ◌≤◌, ◌<◌, length, take, drop, Ok, Err}
use Rattle.plain.specs.Outcome.{Outcome, Outcome.value, Outcome.refused, Rule, ruled, past, mapped}
use Rattle.plain_calls.specs.Calls.{Call}
use Rattle.answer.specs.Answers.{Answer, outcome}
use Rattle.memory.specs.Formed.{well_formed, note_of}
use Rattle.note_promise.specs.Called.{Left}
use Rattle.plain_journal.specs.Fields.{asked, fields_of}
use Rattle.framing.specs.Field.{field_bytes, is_whole, tag_of, body_of}
use Rattle.plain_journal.specs.Replay.{codes, after}
use Rattle.plain_journal.specs.Listing.{field_line, field_lines, ending}
use Rattle.listing_lines.specs.Puts.{Puts}
use Rattle.journal_fields.specs.declared.Done.{Done}
use Rattle.journal_fields.specs.declared.Done.TheVariants as Done·case
use Rattle.journal_fields.specs.Applied.{Applied, line_number, Starved}
use Rattle.journal.specs.declared.fields.Field.{Field}
use Rattle.journal.specs.declared.fields.Field.TheVariants.{Short, Listed, Bad}
use Rattle.journal.specs.declared.fields.Fed.{Fed}
use Rattle.journal.specs.declared.Served.{Served}
use Rattle.journal.specs.declared.State.{State}

-- ── one field ──

-- the field at the front of s, of u bytes, is done as its call promises, and its line is put
abbrev pub OneDone : List ℕ → List ℕ → List ℕ → ℕ → List ℕ → List ℕ → ℕ → ℕ → ℕ → Done → Type 0
OneDone m m' s k o o' put u p d = (is_whole s ≡ true) × (u ≡ field_bytes s) × Applied (asked (tag_of s) (body_of s)) m d m' × Puts 50 put (field_line k (line_number d)) o p o'

abbrev pub Did : List ℕ → List ℕ → List ℕ → ℕ → List ℕ → List ℕ → ℕ → Field → Type 0
Did m m' s k o o' put Short = Starved s × (m' ≡ m) × (o' ≡ o)
Did m m' s k o o' put (Listed u p) = (n : ℕ) × OneDone m m' s k o o' put u p (Done·case.Code n)
Did m m' s k o o' put (Bad u p) = OneDone m m' s k o o' put u p Done·case.Bad

-- ── the fields of some bytes, one behind another ──

-- each is done as its call promises, on the memory as the one before left it, and nothing else is done
abbrev pub Played : List ℕ → List (Outcome Call) → List ℕ → Type 0
Played m [] m' = m' ≡ m
Played m (f ∷ fs) m' = (d : Done) × (mid : List ℕ) × Applied f m d mid × Played mid fs m'

-- The fields of `taken` are replayed: the note is then that of their plain replay, nothing beyond the need has changed, and the next field's number is j.
pub record Replays (m m' taken : List ℕ) (k j : ℕ) : Type 0 where
  pub played : Played m (fields_of taken) m'
  pub left : Left m (after (note_of m) (fields_of taken)) m'
  pub count : j ≡ k + length (fields_of taken)

-- their lines, from field k on
abbrev pub lines_of : List ℕ → ℕ → List ℕ → List ℕ
lines_of m k taken = field_lines k (codes (note_of m) (fields_of taken))

-- ── all fields that are whole ──

-- they end where the bytes `taken` end, and `ended` tells that a bad one is the last
abbrev pub Cut : List ℕ → Bool → Type 0
Cut taken ended = (more : List ℕ) → fields_of (taken ++ more) ≡ fields_of taken ++ cond ended [] (fields_of more)

pub record Feeds (m m' buf : List ℕ) (k : ℕ) (o o' : List ℕ) (r : Fed) : Type 0 where
  pub used_le : r.used ≤ length buf
  pub whole : Cut (take r.used buf) r.ended
  pub does : Replays m m' (take r.used buf) k r.k
  pub lines : take r.put o' ≡ lines_of m k (take r.used buf)
  pub each-le : r.put ≤ 50 * r.used
  pub room : r.put + 20640 ≤ length o
  pub stops : r.ended ≡ false → Starved (drop r.used buf) ⊎ (length o < r.put + 20690)

-- ── with the end of the listing ──

-- the input has ended, and what is left of it holds no whole field: a cut one has its line, then comes the end of the listing
pub record Finishes (m rest : List ℕ) (k : ℕ) (o o' : List ℕ) (put : ℕ) (r : Served) : Type 0 where
  pub used : r.used ≡ length rest
  pub over : r.over ≡ true
  pub count : r.k ≡ k + length (fields_of rest)
  pub put-le : r.put ≤ put + 20640
  pub lines : take r.put o' ≡ take put o ++ (lines_of m k rest ++ ending (note_of m))

-- Where nothing is used and it is not over, more must be read.
pub record Serves (m m' buf : List ℕ) (k : ℕ) (last : Bool) (o o' : List ℕ) (r : Served) : Type 0 where
  pub used_le : r.used ≤ length buf
  pub whole : (more : List ℕ) → (last ≡ true → more ≡ []) → fields_of (buf ++ more) ≡ fields_of (take r.used buf) ++ cond r.over [] (fields_of (drop r.used buf ++ more))
  pub does : Replays m m' (take r.used buf) k r.k
  pub lines : take r.put o' ≡ lines_of m k (take r.used buf) ++ cond r.over (ending (note_of m')) []
  pub put-le : r.put ≤ length o
  pub starves : r.over ≡ false → r.used ≡ 0 → (last ≡ false) × (length buf < 65538)

-- ── a turn, with its buffer ──

-- the bytes that a turn takes from the front of the buffer
abbrev pub taken_by : State → State → List ℕ → List ℕ
taken_by st r b = take (st.fill - r.fill) b

-- A turn takes fields from the front of the input: those of the input from here on are those, and then, unless it is over, those of what is left. It
-- replays them, puts their lines and, where it is over, the end of the listing. Where as much is left as there was, and it is not over, more must be read, and a
-- buffer of 65,538 bytes has room for that.
pub record Advances (m m' b b' : List ℕ) (st : State) (o o' : List ℕ) (r : State) : Type 0 where
  pub fill-le : r.fill ≤ st.fill
  pub rest : take r.fill b' ≡ take r.fill (drop (st.fill - r.fill) b)
  pub whole : (more : List ℕ) → (st.last ≡ true → more ≡ []) → fields_of (take st.fill b ++ more) ≡ fields_of (taken_by st r b) ++ cond r.over [] (fields_of (take r.fill b' ++ more))
  pub does : Replays m m' (taken_by st r b) st.k r.k
  pub lines : take r.put o' ≡ lines_of m st.k (taken_by st r b) ++ cond r.over (ending (note_of m')) []
  pub put-le : r.put ≤ length o
  pub same-last : r.last ≡ st.last
  pub starves : r.over ≡ false → r.fill ≡ st.fill → (st.last ≡ false) × (r.fill < 65538)

-- a turn's refusals: the memory, the buffer and the numbers of fields, the output
abbrev pub turn_rules : List ℕ → List ℕ → State → List ℕ → List Rule
turn_rules m b st o = (2, not (well_formed m)) ∷ (3, past st.fill (length b) || past st.k (2 ^ 64 - 1 - st.fill)) ∷ (9, past 20690 (length o)) ∷ []

-- no byte has changed
abbrev pub Untouched : List ℕ → List ℕ → List ℕ → List ℕ → List ℕ → List ℕ → Type 0
Untouched m m' b b' o o' = (m' ≡ m) × (b' ≡ b) × (o' ≡ o)

-- a state with nothing put
abbrev pub rested : State → State
rested st = record { fill = st.fill; k = st.k; last = st.last; over = st.over; put = 0 }

-- what a turn answers, and what it leaves: where the listing is complete, nothing is done
abbrev pub Taken : List ℕ → List ℕ → List ℕ → List ℕ → State → List ℕ → List ℕ → Outcome State → Type 0
Taken m m' b b' st o o' (value s) = (st.over ≡ true → (s ≡ rested st) × Untouched m m' b b' o o') × (st.over ≡ false → Advances m m' b b' st o o' s)
Taken m m' b b' st o o' (refused q) = Untouched m m' b b' o o'

pub record Turns (m m' b b' : List ℕ) (st : State) (o o' : List ℕ) (r : Answer State) : Type 0 where
  pub answered : mapped {B = Unit {0}} (λ s. tt) (outcome r) ≡ ruled (turn_rules m b st o) tt
  pub taken : Taken m m' b b' st o o' (outcome r)

-- what a program starts with
abbrev pub started : State
started = record { fill = 0; k = 1; last = false; over = false; put = 0 }
