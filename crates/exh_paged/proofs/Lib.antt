pub mod FilesLemmas
pub mod OwnLemmas
pub mod DraftLemmas
pub mod CallLemmas
pub mod EditLemmas
pub mod PutLemmas
