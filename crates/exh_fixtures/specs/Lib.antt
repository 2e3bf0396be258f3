pub mod OpenedWard
pub mod RunsStatus
