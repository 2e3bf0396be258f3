pub mod OpenedWard
