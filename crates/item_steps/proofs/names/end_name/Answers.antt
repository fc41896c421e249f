use Rattle.std.proofs.Common.{sym, ap, ◌∙◌}
use Rattle.code_state.specs.Forms.{opening_view, names_view}
use Rattle.item_steps.specs.Names.{takes_word}
use Rattle.item_steps.proofs.Listings.{name_ended}
use Rattle.item_steps.proofs.names.end_name.Goals as goal

pub returns : goal.returns
returns c is =
    let takes = ap (takes_word (names_view c.args.listing.names)) (sym c.as_bytes.ensures) ∙ sym c.takes_word.ensures ∙ c.if-not-takes_word.false in
    name_ended c.args.at c.args.place c.args.listing.first is (opening_view c.args.listing.opening) c.args.listing.start (names_view c.args.listing.names) _ c.args.word c.args.token.now _ takes c.in_ok-names.ensures (c.after_pair.ensures is)
