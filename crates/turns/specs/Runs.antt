-- Openings and turns one after the other: each call is handed the state that the call before gave back.
use Rattle.std.specs.Prelude.{◌≡◌, true, cond, ◌&&◌, List, [], ◌∷◌, ◌++◌, ℕ, ◌<◌, length, take, eqb}
use Rattle.serving.specs.declared.State.{State}
use Rattle.serving.specs.declared.Opened.{Opened}
use Rattle.serving.specs.declared.Turned.{Turned}
use Rattle.serving.specs.Queue.{is_open, Lists, stretch_in}
use Rattle.serving.specs.States.{queue_of}
use Rattle.serving.specs.Promise.{Opening, Turning}

-- A run from the state s to the state t in which every opening and turn is lent the lists and counts l: each call with its answer, which
-- keeps the promise of the call.
pub data Run (l : Lists) : State → State → Type 0 where
  none : {s : State} → Run l s s
  opening : {s t : State} (k : ℕ) (answer : Opened) → Opening s k l.cycles answer → Run l answer.state t → Run l s t
  turning : {s t : State} (answer : Turned) → Turning s l answer → Run l answer.state t → Run l s t

-- What its turns answered, in their order.
unfoldable pub answers_of : {l : Lists} {s t : State} → Run l s t → List Turned
answers_of none = []
answers_of (opening k answer p r) = answers_of r
answers_of (turning answer p r) = answer ∷ answers_of r

-- Cycle k is open before each call of a run. (After its last call it may be closed.)
abbrev pub OpenBeforeEachCall : (k : ℕ) {l : Lists} {s t : State} → Run l s t → Type 0
OpenBeforeEachCall k none = Unit
OpenBeforeEachCall k (opening {s = s} j answer p r) = (is_open k (queue_of s) ≡ true) × OpenBeforeEachCall k r
OpenBeforeEachCall k (turning {s = s} answer p r) = (is_open k (queue_of s) ≡ true) × OpenBeforeEachCall k r

-- Those turns that served cycle k.
unfoldable pub turns_of : ℕ → List Turned → List Turned
turns_of k [] = []
turns_of k (a ∷ later) = cond (a.served && eqb a.cycle k) (a ∷ turns_of k later) (turns_of k later)

-- The corners that turns handed out, put together in order: of each answer the first places, as many as it says.
unfoldable pub corners_of : List Turned → List ℕ
corners_of [] = []
corners_of (a ∷ later) = take a.count a.places ++ corners_of later

-- Each cycle below the count has corners, as in the lists of an accepted tracing.
abbrev pub EachHasCorners : Lists → Type 0
EachHasCorners l = (k : ℕ) → k < l.cycles → 0 < length (stretch_in l k)
