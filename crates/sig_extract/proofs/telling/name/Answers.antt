use Rattle.std.specs.Option.{option_map}
use Rattle.named_rows.specs.Seen.{seen}
use Rattle.told_signature.specs.Seen.{told_view}
use Rattle.sig_extract.specs.Seen.{binding_view}
use Rattle.sig_extract.proofs.Named.{as_type}
use Rattle.sig_extract.proofs.telling.name.Goals as goal

pub returns-then-is_type : goal.returns-then-is_type
returns-then-is_type c =
    as_type (seen binding_view c.args.scope.now.rows.items) c.args.word.now (option_map binding_view c.binding.result) (told_view c.as_type.result) c.args.is_type c.if-is_type.true c.binding.ensures
    c.as_type.ensures
