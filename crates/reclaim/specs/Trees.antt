-- The blocks of a tree that are given back when its head is destroyed.
--     YoungIn mem root h stamp b    a tree of height h has a pointer to block b, born after the stamp
--     TreeReady                     those blocks can be given back
use Rattle.std.specs.Prelude.{◌≡◌, ℕ, suc, ◌/◌, ◌<◌, ◌≤◌, true, List, Option}
use Rattle.blocks.specs.Meanings.{Meaning}
use Rattle.records.specs.declared.rows.Pointer.{Pointer}
use Rattle.tree.specs.Trees.{fan, Holds, Lost}

-- some place of the tree has a pointer to block b, born after the stamp
abbrev pub YoungIn : List ℕ → Option Pointer → ℕ → ℕ → ℕ → Type 0
YoungIn mem root h stamp b = (d : ℕ) × (i : ℕ) × (q : Pointer) × Holds mem root h d i q × (stamp < q.birth) × (q.block ≡ b)

pub record TreeReady (m : Meaning) (mem : List ℕ) (root : Option Pointer) (h stamp : ℕ) : Type 0 where
  -- the tree is no higher than a tree may be, and every block that it reaches lies in the memory
  pub low : h ≤ 4
  pub inside : ¬ (Lost mem root h)
  -- a block is at most as young as the one that points to it
  pub falls : (d i : ℕ) (q x : Pointer) → Holds mem root h (suc d) i q → Holds mem root h d (i / fan) x → q.birth ≤ x.birth
  -- places that point to one block are one place
  pub apart : (d e i j : ℕ) (q x : Pointer) → Holds mem root h d i q → Holds mem root h e j x → q.block ≡ x.block → (d ≡ e) × (i ≡ j)
  -- the young blocks are owned
  pub owned : (b : ℕ) → YoungIn mem root h stamp b → m.owns b ≡ true
