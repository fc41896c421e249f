-- What entries, candidates and elements of the code stand for.
use Rattle.std.specs.Prelude.{List}
use Rattle.typing.specs.Objects as typing
pub use Rattle.check_world.specs.View.{levels_seen}
use Rattle.literal_reads.specs.Keys.{rows_view}
use Rattle.literal_reads.specs.declared.entries.Entries.{Entries}
use Rattle.literal_reads.specs.declared.candidate.Candidate.{Candidate}
use Rattle.literal_reads.specs.declared.elements.Elements.{Elements}
use Rattle.literal_reads.specs.declared.elements.Elements.TheVariants as elements

-- the properties of a literal, in order
unfoldable pub entries_view : Entries → List typing.Entry
entries_view es = rows_view es.rows

-- an object type that a literal is read against
abbrev pub candidate_view : Candidate → typing.Candidate
candidate_view c = record { exact = c.exact; props = c.props.now }

abbrev pub elements_view : Elements → typing.Elements
elements_view (elements.Of element) = typing.elements_of element.now
elements_view (elements.In all) = typing.elements_in all.now
