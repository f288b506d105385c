-- How the errors of lower calls are told as one of a codec.
use Rattle.zarrs_array_subset.specs.declared.error.ArraySubsetError.{ArraySubsetError}
use Rattle.zarrs_array_subset.specs.declared.error.ArraySubsetError.TheVariants as subset
use Rattle.zarrs_array_subset.specs.declared.error.IndexerError.{IndexerError}
use Rattle.zarrs_array_subset.specs.declared.error.IndexerError.TheVariants as indexer
use Rattle.zarrs_storage.specs.declared.byte_range.ByteRangeFault.{ByteRangeFault}
use Rattle.zarrs_storage.specs.declared.byte_range.ByteRangeFault.TheVariants as range
use Rattle.zarrs_storage.specs.declared.store.StorageError.{StorageError}
use Rattle.zarrs_storage.specs.declared.store.StorageError.TheVariants as store
use Rattle.zarrs_codec_error.specs.declared.array_bytes_error.ArrayBytesFixedDisjointViewCreateError.{
  ArrayBytesFixedDisjointViewCreateError,
}
use Rattle.zarrs_codec_error.specs.declared.array_bytes_error.ArrayBytesFixedDisjointViewCreateError.TheVariants as view
use Rattle.zarrs_codec_error.specs.declared.error.CodecError.{CodecError}
use Rattle.zarrs_codec_error.specs.declared.error.CodecError.TheVariants as codec

-- that of an indexer
abbrev pub codec_of_indexer : IndexerError → CodecError
codec_of_indexer indexer.OutOfMemory = codec.OutOfMemory
codec_of_indexer error = codec.IncompatibleIndexer error

-- that of a store
abbrev pub codec_of_storage : StorageError → CodecError
codec_of_storage store.Failed = codec.StorageError store.Failed
codec_of_storage (store.InvalidByteRange error) = codec.InvalidByteRangeError error
codec_of_storage store.OutOfMemory = codec.OutOfMemory

-- that of an array subset
abbrev pub codec_of_subset : ArraySubsetError → CodecError
codec_of_subset subset.OutOfMemory = codec.OutOfMemory
codec_of_subset error = codec.ArraySubsetError error

-- that of bytes which were asked for by ranges
abbrev pub codec_of_range : ByteRangeFault → CodecError
codec_of_range (range.Invalid error) = codec.InvalidByteRangeError error
codec_of_range range.OutOfMemory = codec.OutOfMemory

-- that of a view
abbrev pub codec_of_view : ArrayBytesFixedDisjointViewCreateError → CodecError
codec_of_view (view.SubsetOutOfBounds error) = codec.SubsetOutOfBounds error
codec_of_view (view.InvalidBytesLength error) = codec.UnexpectedChunkDecodedSize error
codec_of_view view.OutOfMemory = codec.OutOfMemory
