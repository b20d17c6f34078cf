-- What reading the tree and the query answers, for every input: refusals 1 to 4, or the numbers that a build goes on with.
use Rattle.std.specs.Prelude.{List, Result, ℕ, ◌+◌, ◌*◌, drop}
use Rattle.paper.specs.Stream.{records_of, tree_records}
use Rattle.paper.specs.Tree.{most_unjoined}
use Rattle.paper.specs.Query.{query_of}
use Rattle.paper.specs.Refusals.{Reply, unless, tree_part, query_part, nodes_in}
use Rattle.paper.specs.declared.StreamRefusal.{StreamRefusal}
use Rattle.paper.specs.Answers.{no_of_stream, says}
pub use Rattle.stream.specs.declared.tree.TreeFacts.{TreeFacts}
pub use Rattle.stream.specs.declared.head.QueryFacts.{QueryFacts}

-- ---- the tree: where it ends, its nodes, and the most subtrees ever unjoined
abbrev pub tree_facts : List ℕ → TreeFacts
tree_facts input = record {
  end = 2 * nodes_in input;
  nodes = nodes_in input;
  most = most_unjoined (tree_records (records_of input));
}

abbrev pub tree_reply : List ℕ → Reply TreeFacts
tree_reply input = unless (tree_part (tree_records (records_of input))) (tree_facts input)

abbrev pub says_tree : Result TreeFacts StreamRefusal → Reply TreeFacts
says_tree = says no_of_stream

-- ---- the query whose head stands at a position: its arity, its states, and where the records behind the head begin
abbrev pub query_facts : List ℕ → ℕ → QueryFacts
query_facts input at = record {
  arity = (query_of (records_of (drop at input))).arity;
  states = (query_of (records_of (drop at input))).states;
  rules = at + 3;
}

abbrev pub query_reply : List ℕ → ℕ → Reply QueryFacts
query_reply input at = unless (query_part at (records_of (drop at input))) (query_facts input at)

abbrev pub says_query : Result QueryFacts StreamRefusal → Reply QueryFacts
says_query = says no_of_stream
