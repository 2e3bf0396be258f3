-- of writing: put_record, put_page, lay_out
pub mod PutPairs
pub mod UsedBytes
-- of reading: cells, the head, low bounds, zeros, rising records
pub mod PairImages
pub mod LowBytes
pub mod HeadReading
pub mod Rising
-- from a page to its block and back: read_content, one_page
pub mod LaidOut
pub mod ReadBack
-- of images_pass: a laid-out block passes the tests, and a block that passes is an image
pub mod ImagesPass
pub mod PassingImages
-- of blocks_are_read, decode_head
pub mod PageOf
-- of decode_page_of and images_are_sealed
pub mod FirstFault
