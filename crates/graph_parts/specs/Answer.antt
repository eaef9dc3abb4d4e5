-- What a run may end with, and the text that it then writes.
use Rattle.std.specs.Prelude.{◌≡◌, ℕ, List}
use Rattle.cp_base.specs.Graphs.{PlainGraph}
use Rattle.cp_cgraph.specs.Clustered.{Clustered, nodes}
use Rattle.cp_cgraph.specs.GraphTexts.{IsGraphText, IsGraphFault}
use Rattle.cp_gml.specs.Lists as lists
use Rattle.cp_gml.specs.Kinds.{grammar_number}
use Rattle.cp_gml.specs.declared.kind.GrammarKind.{GrammarKind}
use Rattle.cp_cgraph.specs.Kinds.{graph_number}
use Rattle.cp_cgraph.specs.declared.kind.GraphKind.{GraphKind}
use Rattle.cp_io.specs.Commands as commands
use Rattle.cp_io.specs.declared.command.Ends.{Ends}
use Rattle.graph_parts.specs.Asking.{Asks}
use Rattle.graph_parts.specs.Fitting.{IsFittingRequest, AreAsked}
use Rattle.graph_parts.specs.Texts.{number_lines, unfit_line, refused_line, usage_line}
use Rattle.graph_parts.specs.declared.ask.Asked.{Asked}
use Rattle.graph_parts.specs.declared.end.End.{End}
use Rattle.graph_parts.specs.declared.end.End.TheVariants as ends

-- the graph without its clusters
abbrev pub plain : Clustered → PlainGraph
plain g = record { vertices = nodes g; ends = g.ends }

-- the text says a clustered graph, whose nodes and edges these are
pub record IsPlainText (text : List ℕ) (g : PlainGraph) : Type 0 where
  pub clustered : Clustered
  pub said : IsGraphText text clustered
  pub same : g ≡ plain clustered

-- the first fault of the text, as a list or as a graph, by the number of its kind
pub data IsFault (text : List ℕ) : ℕ → ℕ → Type 0 where
  grammar : (kind : GrammarKind) (at : ℕ) → lists.IsFaultOf text kind at → IsFault text (grammar_number kind) at
  graph : (kind : GraphKind) (at : ℕ) → IsGraphFault text kind at → IsFault text (graph_number kind) at

-- what is answered to all bytes, where something is asked for
pub data Told (asked : Asked) (bytes : List ℕ) : End → List ℕ → Type 0 where
  refused : (kind at : ℕ) → IsFault bytes kind at → Told asked bytes (ends.Refused kind at) (refused_line kind at)
  unfit : (g : PlainGraph) → IsPlainText bytes g → ¬ IsFittingRequest asked g → Told asked bytes ends.Unfit unfit_line
  done : (g : PlainGraph) → IsPlainText bytes g → IsFittingRequest asked g → (numbers : List ℕ) → AreAsked asked g numbers
      → Told asked bytes ends.Done (number_lines numbers)

-- the ends that all commands share
abbrev pub shared_ends : Ends End
shared_ends = record {
  usage = ends.Usage;
  too_long = ends.TooLong;
  read_fault = ends.ReadFault;
  write_fault =
      ends.WriteFault;
  memory = ends.Memory;
}

-- for these words and bytes the run may end so and write this text: the words ask for nothing, or the bytes are
-- too many, or what they ask for is told
abbrev pub Answer : List (List ℕ) → List ℕ → End → List ℕ → Type 0
Answer = commands.Answer Asks Told shared_ends usage_line
