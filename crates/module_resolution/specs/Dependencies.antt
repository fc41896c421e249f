-- The dependency list of a module.
use Rattle.std.specs.Prelude.{List, [], ◌∷◌, ◌++◌, map, Option, Some, None}
use Rattle.js_grammar.specs.Items.{export_from, ItemForm, imports, exports, Item, item, Items, no_item, more_item, Module, module_of}
use Rattle.check_values.specs.Rows.{Bytes, distinct}
use Rattle.check_values.specs.declared.signatures.Deps.{Deps}
use Rattle.module_resolution.specs.Resolution.{resolved}

-- the specifier of an import, or of an export of another module's names
abbrev pub specifiers_of_form : ItemForm → List Bytes
specifiers_of_form (imports form spec) = spec ∷ []
specifiers_of_form (exports (export_from is_type names spec)) = spec ∷ []
specifiers_of_form form = []

abbrev pub specifiers_of : Item → List Bytes
specifiers_of (item first end form) = specifiers_of_form form

-- the specifiers of items, in order
abbrev pub specifiers_in : Items → List Bytes
specifiers_in no_item = []
specifiers_in (more_item before last) = specifiers_in before ++ specifiers_of last

-- the specifiers of a module, each once, in order of their first places
abbrev pub specifiers : Module → List Bytes
specifiers (module_of first end all) = distinct (specifiers_in all)

-- each specifier with the module that it finds among the paths of a program
abbrev pub dependencies : List Bytes → Bytes → Module → Deps
dependencies paths from m = record { rows = map (λ spec. record { spec = spec; found = resolved paths from spec }) (specifiers m) }

-- those of a source, by its tree where it has one; a source without a tree depends on nothing
abbrev pub dependencies_of : List Bytes → Bytes → Option Module → Deps
dependencies_of paths from None = record { rows = [] }
dependencies_of paths from (Some m) = dependencies paths from m
