pub mod StdBytes
