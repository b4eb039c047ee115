-- The edges that the code's two tables list.
use mathlib.Core.List.{List}
use Rattle.graph.specs.Order.{Edge, edges}
use Rattle.clerk.specs.declared.Edges.{Edges}

-- Edge k has its item and its target at k.
abbrev pub edges_in : Edges → List Edge
edges_in e = edges e.owners.now e.targets.now
