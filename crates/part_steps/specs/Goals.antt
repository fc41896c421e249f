-- Targets of assignments, by the types of their parts.
use Rattle.std.specs.Prelude.{ℕ, suc, List, [], ◌∷◌, fold, map, Option}
use Rattle.std.specs.List.{filter_map}
use Rattle.check_values.specs.Rows.{Bytes}
use Rattle.type_values.specs.declared.types.FlowType.{FlowType}
use Rattle.type_terms.specs.Show.{brief}
use Rattle.flow_facts.specs.declared.place.Place.{Place}
use Rattle.typing.specs.States.{World, Notes, asked}
use Rattle.typing.specs.Members.{Part, levels, steps_type, steps_faults, property_read, property_written, index_written, target_of_prop, target_of_index}
use Rattle.typing.specs.Statements.{Goal, set_element, property_target}
use Rattle.part_steps.specs.Members.{part_at}

-- the property `.key` of an object of this type
abbrev pub goal_of_property : World → ℕ → ℕ → ℕ → Bytes → Option Place → FlowType → Goal
goal_of_property w f at t key place ty =
    let part : Part = part_at f at ty (suc at) t key in
    record {
      wants = filter_map (target_of_prop key) (levels w ty);
      faults = steps_faults (map (property_written w part key) (levels w ty));
      target = property_target key (steps_type (map (property_read w part key) (levels w ty))) place;
    }

-- the element of an index of type i, at these tokens, of an object of this type
abbrev pub goal_of_element : World → ℕ → ℕ → ℕ → ℕ → FlowType → FlowType → Goal
goal_of_element w f at from to i ty =
    let part : Part = part_at f at ty from to (brief i) in
    record {
      wants = filter_map (target_of_index w i) (levels w ty);
      faults = steps_faults (map (index_written w part i) (levels w ty));
      target = set_element;
    }

-- a value at these tokens is asked to be below each of several types
abbrev pub asked_all : World → ℕ → ℕ → List FlowType → FlowType → Notes → Notes
asked_all w f t wants ty notes = fold (λ so_far want. asked w f t want ty so_far) notes wants

-- unless it was read against the one type that there is
abbrev pub asked_every : World → ℕ → ℕ → List FlowType → FlowType → Notes → Notes
asked_every w f t (want ∷ []) ty notes = notes
asked_every w f t wants ty notes = asked_all w f t wants ty notes
