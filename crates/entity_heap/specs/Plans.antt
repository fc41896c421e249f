-- What the writer and a lane know after each of their steps.
use Rattle.std.specs.Prelude.{ℕ, zero, suc, ◌+◌, ◌-◌, ◌%◌, max, Bool, true, false, List, [], ◌∷◌, ◌++◌, length, replicate, slice_set, Option, Some, None}
use Rattle.heap_core.specs.Meaning.{none_of}
use Rattle.entity_heap.specs.declared.board.Entry.{Entry}
use Rattle.entity_heap.specs.declared.board.Fill.{Fill}
use Rattle.entity_heap.specs.declared.board.Plan.{Plan}
use Rattle.entity_heap.specs.declared.board.Visit.{Visit}
use Rattle.entity_heap.specs.declared.board.Terms.{Terms}
use Rattle.entity_heap.specs.declared.board.Role.{Role}
use Rattle.entity_heap.specs.declared.board.Role.TheVariants.{Spent, Told, Reads, Writes}
use Rattle.entity_heap.specs.Rule.{word_for}

-- the entities' words at a commit
abbrev pub new_words : ℕ → List Bool → List ℕ → List ℕ
new_words c (b ∷ bs) (w ∷ ws) = word_for c b w ∷ new_words c bs ws
new_words c _ ws = ws

module _ {P : Type 0} where
  -- the second list, with place e of the first
  abbrev pub restored : List P → List P → ℕ → List P
  restored (c ∷ cs) (x ∷ xs) zero = c ∷ xs
  restored (c ∷ cs) (x ∷ xs) (suc e) = x ∷ restored cs xs e
  restored _ xs e = xs

  abbrev pub first_state : Terms P → List P
  first_state key = key.root.value ∷ replicate (key.entities - 1) key.absent.value

  abbrev pub first_plan : Terms P → Plan P
  first_plan key = record {
    lanes = key.lanes;
    entities = key.entities;
    version = 0;
    history = first_state key ∷ [];
    committed = first_state key;
    next = first_state key;
    words = replicate key.entities 0;
    staged = replicate key.entities false;
    drained = true;
    reset = true;
    owed = 0;
    found = [];
    made = 0;
    met = replicate 16 0;
    heard = [];
    hand = None;
    fill = None;
  }

  abbrev pub starting : Terms P → Role P
  starting key = Writes (first_plan key)

  -- the swap of the gate found n
  abbrev pub after_commit : ℕ → Plan P → Plan P
  after_commit n q = record q {
    version = q.version + 1;
    history = q.history ++ q.next ∷ [];
    committed = q.next;
    words = new_words q.version q.staged q.words;
    staged = none_of q.staged;
    drained = false;
    reset = false;
    owed = n % 4294967296;
  }

  -- a load of the departures from the version before found n, fewer than are owed
  abbrev pub after_load : ℕ → Plan P → Plan P
  after_load n q = record q { found = q.found ++ n ∷ [] }

  -- it found as many as are owed
  abbrev pub after_drain : ℕ → Plan P → Plan P
  after_drain n q = record q { drained = true; owed = 0; found = q.found ++ n ∷ [] }

  -- the fill that goes on, or begins at entity e
  abbrev pub fill_at : Option (Fill P) → ℕ → Fill P
  fill_at (Some f) e = f
  fill_at None e = record { entity = e; payloads = [] }

  -- the next slot of the fill is taken
  abbrev pub reaching : Plan P → Fill P → ℕ → Plan P
  reaching q f k = record q { hand = Some (record { lane = length f.payloads; slot = k }); fill = Some f }

  -- it is given back with the payload x
  abbrev pub filling_on : Plan P → Fill P → P → Plan P
  filling_on q f x = record q { hand = None; fill = Some (record f { payloads = f.payloads ++ x ∷ [] }) }

  abbrev pub staging : Plan P → ℕ → P → Plan P
  staging q e x = record q { next = slice_set q.next e x; staged = slice_set q.staged e true; fill = None }

  abbrev pub rolling : Plan P → ℕ → Plan P
  rolling q e = record q { next = restored q.committed q.next e; staged = slice_set q.staged e false }

  -- a pin at c, whose state is xs
  abbrev pub after_pin : ℕ → List P → Visit P → Visit P
  after_pin c xs l = record l { pins = l.pins + 1; pin = Some c; state = xs; seen = c }

  -- with what was read
  abbrev pub with_entry : Option ℕ → List P → List (Entry P) → List (Entry P)
  with_entry (Some p) xs es = es ++ record { version = p; state = xs } ∷ []
  with_entry None xs es = es

  abbrev pub after_unpin : Visit P → Visit P
  after_unpin l = record l { pin = None; entries = with_entry l.pin l.state l.entries }

  -- a look found the version c
  abbrev pub after_look : ℕ → Visit P → Visit P
  after_look c l = record l { floor = c; looks = l.looks + 1 }

  abbrev pub blank_visit : Visit P
  blank_visit = record { number = 0; entities = 0; pins = 0; looks = 0; pin = None; state = []; seen = 0; floor = 0; entries = []; hold = None }

  abbrev pub blank_plan : Plan P
  blank_plan = record { lanes = 0; entities = 0; version = 0; history = []; committed = []; next = []; words = []; staged = []; drained = false; reset = false; owed = 0; found = []; made = 0; met = []; heard = []; hand = None; fill = None }

  -- a lane's view, and a blank one where the seat is no lane's
  abbrev pub visit_of : Role P → Visit P
  visit_of (Reads l) = l
  visit_of _ = blank_visit

  -- the writer's view, and a blank one where the seat is not the writer's
  abbrev pub plan_of : Role P → Plan P
  plan_of (Writes q) = q
  plan_of _ = blank_plan

  -- a seat's view, cut in two by `open`: the writer counts one more lane
  abbrev pub counting : Role P → Role P
  counting (Writes q) = Writes (record q { made = q.made + 1 })
  counting v = v

  -- what lane k knows at first, in a heap of m entities
  abbrev pub first_visit : ℕ → ℕ → Visit P
  first_visit m k = record { number = k; entities = m; pins = 0; looks = 0; pin = None; state = []; seen = 0; floor = 0; entries = []; hold = None }

  abbrev pub new_visit : Plan P → Visit P
  new_visit q = first_visit q.entities q.made

  abbrev pub newcomer : Role P → Role P
  newcomer (Writes q) = Reads (new_visit q)
  newcomer v = Spent

  -- the writer tells its version
  abbrev pub telling : Role P → Role P
  telling (Writes q) = Told (record { version = q.version; lane = 0; at = 0; entries = [] })
  telling v = Spent

  abbrev pub hearing : Role P → Role P → Role P
  hearing (Reads l) (Told x) = Reads (record l { floor = max l.floor x.version })
  hearing v w = v

  -- a lane with no pin tells that it has none before its floor, and what it has read
  abbrev pub noting : Role P → Role P
  noting (Reads l) = Told (record { version = 0; lane = l.number; at = l.floor; entries = l.entries })
  noting v = Spent

  abbrev pub learning : Role P → Role P → Role P
  learning (Writes q) (Told x) = Writes (record q { met = slice_set q.met x.lane x.at; heard = x.entries })
  learning v w = v
