-- What a token does where an item holds no code yet.
use Rattle.std.specs.Prelude.{[], Option, Some, None}
use Rattle.js_grammar.specs.Items.{Items}
use Rattle.code_law.specs.Frames.{Step, fault, go}
use Rattle.code_state.specs.Forms.{item_mode_view}
use Rattle.code_state.specs.declared.items.ItemMode.{ItemMode}

-- none is a fault; behind these items, nothing is open
abbrev pub item_turn : Items → Option ItemMode → Step
item_turn is None = fault
item_turn is (Some m) = go [] (item_mode_view is m)
