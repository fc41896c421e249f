use Rattle.std.proofs.Common.{refl}
use Rattle.std.specs.Ordering.{nat_cmp}
use Rattle.std.specs.Cmp.Lexicographic.{slice_cmp}
use Rattle.std.specs.BTreeSet.{contains}
use Rattle.named_rows.specs.Seen.{seen}
use Rattle.told_signature.specs.Seen.{named_in, said_view}
use Rattle.told_signature.proofs.Signed.{signed}
use Rattle.told_signature.proofs.signing.signature.Goals as goal

pub returns : goal.returns
returns c =
    signed (seen (said_view (named_in c.args.named.now.entries)) c.args.exports.now) c.args.aliases.items c.args.imports.now (contains (slice_cmp nat_cmp) c.in_ok-names.names) c.in_ok-aliases.aliases.entries c.in_ok-led_to.field-0.items _ c.in_ok-aliases.ensures
    c.in_ok-led_to.ensures c.in_ok-names.ensures refl c.in_ok-origins.ensures c.in_ok-reached_aliases.ensures c.in_ok-reached_imports.ensures
