-- What rows stand for.
use Rattle.std.specs.Prelude.{ℕ, ◌+◌, Option, if◌then◌else◌}
use Rattle.std.specs.Ordering.{nat_cmp}
use Rattle.std.specs.BTreeMap.{get, btree_map_len}
use Rattle.flow_facts.specs.Known.{is_constant_number}
use Rattle.fact_trail.specs.declared.fact.Fact.{Fact}
use Rattle.fact_trail.specs.declared.class_facts.ClassFacts.{ClassFacts}
use Rattle.fact_trail.specs.declared.variables.Variables.{Variables}
use Rattle.fact_trail.specs.declared.properties.Properties.{Properties}
use Rattle.fact_trail.specs.Slots.{Key, key_cmp}

abbrev pub class_facts_of : ClassFacts → ℕ → Option Fact
class_facts_of c b = get nat_cmp c.rows b

abbrev pub variables_of : Variables → ℕ → Option Fact
variables_of v b = if is_constant_number b then class_facts_of v.constants b else class_facts_of v.changing b

-- how many variables have a fact
abbrev pub facts_count : Variables → ℕ
facts_count v = btree_map_len v.constants.rows + btree_map_len v.changing.rows

abbrev pub properties_of : Properties → Key → Option Fact
properties_of p k = get key_cmp p.rows k
