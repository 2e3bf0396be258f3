-- how many keys the records of a page have, and how many keys of a map pass a test
pub mod RecordCount
pub mod Begun
-- of putting: pages that are needed, through splits and an answer
pub mod NeededLemmas
pub mod PutLemmas
-- of filling: pairs that are put one after the other, and the wards of a file
pub mod FillLemmas
pub mod FileLemmas
-- of compacting: the pairs of a file in a new one
pub mod CompactLemmas
-- of gathering: wards that aren't counted
pub mod Left
-- of counting: the longest prefix
pub mod Longest
-- of gathering: pages whose shapes are gathered
pub mod Shapes
-- of text: what is told of the items of a list
pub mod Told
