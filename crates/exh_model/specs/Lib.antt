pub mod MachineState
pub mod MachinePairs
pub mod LeafSet
