mod Covers
mod StoreSteps
